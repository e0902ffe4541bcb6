-- `packet::steps` meets its contract: each byte is the next step.
-- Assumes nothing.
use Rattle.std.proofs.Common.{◌≡◌, ◌+◌, ◌*◌, ◌<◌, length, take, drop, sym, ◌∙◌, arith}
use Rattle.std.proofs.lemmas.List.{ext_get_or, get_or-take, get_or-drop, length-take-le, length-drop}
use Rattle.packet.specs.Packet.{steps_at, packed_steps}
use Rattle.packet.proofs.Window.{byte_is_field}
use Rattle.packet.proofs.Packed.{steps_at_lem, steps_long}
use Rattle.packet.proofs.steps.Goals as goal

pub returns : goal.returns
returns c =
    let bytes = c.args.bytes.now in
    let long : length (take 64 (drop 2 bytes)) ≡ 64 = length-take-le 64 (drop 2 bytes) (omega (arith, length-drop 2 bytes)) in
    ext_get_or 0 (take 64 (drop 2 bytes)) (packed_steps bytes) (long ∙ sym (steps_long bytes))
    (λ k h.
    let n : k < 64 = omega (arith, long) in
    get_or-take 64 (drop 2 bytes) k 0 n ∙ get_or-drop 2 bytes k 0 ∙ byte_is_field bytes c.type_inv.bytes (steps_at + 8 * k) (2 + k) (omega arith) ∙ sym (steps_at_lem bytes k n))

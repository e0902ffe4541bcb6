-- `packet::Packet::check` meets its contract: the tests that led to each answer say whether the packet is well packed.
-- Assumes nothing.
use Rattle.std.proofs.Common.{sym, ap, ◌∙◌, ℕ, ◌+◌, ◌*◌}
use Rattle.answers.specs.Said.{refuse, number_of}
use Rattle.packet.proofs.Packed.{well, short, other_version, other_length, accepted, refused}
use Rattle.packet.proofs.Packet.check.Goals as goal
use Rattle.packet.proofs.Packet.check.Goals.{then-long-lt2-via-then-long-lt2, then-long-lt2-via-else-long-lt2+then-bytes-ne-VERSION, then-long-lt2-via-else-long-lt2+else-bytes-ne-VERSION+then-long-blocks}

pub invariant_of-result : goal.invariant_of-result
invariant_of-result c = record {
  well = well c.args.bytes.now c.type_inv.bytes c.if-long-lt2.false c.if-bytes-ne-VERSION.false c.blocks-else-bytes-ne-VERSION.ensures.value c.if-long-blocks.false;
  long = c.if-long-blocks.false ∙ ap (λ (n : ℕ). 226 + 96 * n) c.blocks-else-bytes-ne-VERSION.ensures.value;
}

pub returns-then-long-lt2-clause-told : goal.returns-then-long-lt2-clause-told
returns-then-long-lt2-clause-told c =
    let bytes = c.args.bytes.now in
    let known = c.type_inv.bytes in
    ap (λ r. refuse (number_of r.kind) r.first r.second) c.new.ensures ∙ sym (refused bytes (elim c.then-long-lt2.branch [
      | then-long-lt2-via-then-long-lt2 w ↦ short bytes known w.if-long-lt2.true
      | then-long-lt2-via-else-long-lt2+then-bytes-ne-VERSION w ↦ other_version bytes known w.if-long-lt2.false w.if-bytes-ne-VERSION.true
      | then-long-lt2-via-else-long-lt2+else-bytes-ne-VERSION+then-long-blocks w ↦ other_length bytes known w.if-long-lt2.false w.if-bytes-ne-VERSION.false w.blocks-else-bytes-ne-VERSION.ensures.value w.if-long-blocks.true
    ]))

pub returns-clause-told : goal.returns-clause-told
returns-clause-told c =
    sym (accepted _ (well c.args.bytes.now c.type_inv.bytes c.if-long-lt2.false c.if-bytes-ne-VERSION.false c.blocks-else-bytes-ne-VERSION.ensures.value c.if-long-blocks.false))

-- `headend::store` meets its contract: the bytes of each number stand behind those of the numbers before it.
-- Assumes nothing.
use Rattle.std.proofs.Common.{◌≡◌, ◌+◌, ◌*◌, length, take, sym, ap, ◌∙◌, arith}
use Rattle.std.proofs.lemmas.List.{take_all}
use Rattle.std.proofs.lemmas.Slice.{take-put_mid}
use Rattle.headend.specs.HeadEnd.{bytes_of}
use Rattle.headend.proofs.Bytes.{no_bytes, bytes_more}
use Rattle.headend.proofs.store.Goals as goal

pub loop-i-init : goal.loop-i-init
loop-i-init c = sym no_bytes

pub loop-i-preserved : goal.loop-i-preserved
loop-i-preserved c =
    let l = c.loop-i in
    let e = c.copy_from_slice.ensures.after ∙ c.to_be_bytes.ensures in
    take-put_mid (8 * l.i) _ l.keep c.copy_from_slice.new.self (8 * (l.i + 1)) (omega (arith, ap length e)) (omega arith) ∙ rw (l.invariant, e) (sym (bytes_more c.args.numbers.now l.i (omega arith)))

pub returns : goal.returns
returns c =
    let l = c.loop-i in
    let all : take (8 * l.i) l.keep ≡ l.keep = take_all _ l.keep (omega arith) in
    sym all ∙ l.invariant ∙ ap bytes_of (take_all _ c.args.numbers.now (omega arith))

use Rattle.std.proofs.Common.{◌≡◌, ◌*◌}
use Rattle.text.specs.Text.{corner_lines}
use Rattle.text.specs.Put.{Put}
use Rattle.text.proofs.Text.lines.Given as goal

abbrev pub invariant-loop-bits : goal.invariant-loop-bits
invariant-loop-bits l = record {
  same_bytes : l.self.out.ghost_name ≡ l.initial.self.out.ghost_name;
  lines : Put (63 * l.bits-index) l.initial.self.out.now l.initial.self.len (corner_lines l.list l.bits-index) l.self.out.now l.self.len;
}

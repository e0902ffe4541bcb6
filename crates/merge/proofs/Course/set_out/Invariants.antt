use Rattle.merge.specs.SettingOut.{Headed}
use Rattle.merge.proofs.Course.set_out.Given as goal

abbrev pub invariant-loop-i : goal.invariant-loop-i
invariant-loop-i l = Headed l.fn.self.search.still l.low l.from l.goals l.self l.i

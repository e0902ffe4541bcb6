-- `forward::nodes::Nodes::least` meets its contract: without a tie the scan by cost has found the first, and the exact scan
-- finds it always.
use Rattle.forward.proofs.Forgetting.{whole}
use Rattle.forward.proofs.nodes.Nodes.least.Goals as goal

pub returns-in-Some : goal.returns-in-Some
returns-in-Some c = whole _ _ _ _ c.requires.behind ((c.in-Some.ensures {u = tt}).first _)

pub returns-in-None : goal.returns-in-None
returns-in-None c = whole _ _ _ _ c.requires.behind c.scan_exact.ensures

-- `block::squared_error` meets its contract: a magnitude and a step of a byte keep the square within its bound.
-- Assumes nothing.
use native.Mathlib.Omega.{arith}
use Rattle.block.proofs.Limited.{error_level_most}
use Rattle.block.proofs.squared_error.Goals as goal

pub returns-clause-most : goal.returns-clause-most
returns-clause-most c = error_level_most c.requires (omega (arith, c.ranges.q.fits))

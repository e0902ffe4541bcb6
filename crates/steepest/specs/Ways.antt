-- When a block's way is at least as steep as another's: so it wins over it.
use Rattle.steepest.specs.Slope.{AsSteep}
use Rattle.steepest.specs.declared.way.Way.{Way}

abbrev pub WayAsSteep : Way → Way → Type 0
WayAsSteep x y = AsSteep x.run x.fall y.run y.fall

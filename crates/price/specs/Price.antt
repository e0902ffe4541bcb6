-- Which number of a price is outside its range, and what a choice costs at a price.
use Rattle.std.specs.Prelude.{Result, Ok, Err, ℕ, ◌+◌, ◌*◌, ltb}
use Rattle.block.specs.First.{pick}
use Rattle.price.specs.Accepted.{most_on_error, most_on_bits}
use Rattle.price.specs.declared.Price as P
use Rattle.price.specs.declared.OutOfRange as O
use Rattle.price.specs.declared.OutOfRange.TheVariants as out

-- the number that is outside its range, a told first: 1 for a, 2 for b, 0 for neither
unfoldable pub outside : ℕ → ℕ → ℕ
outside a b = pick (ltb a 1) 1 (pick (ltb most_on_error a) 1 (pick (ltb most_on_bits b) 2 0))

-- the same of an error, and of what making a price answers
abbrev pub number_of : O.OutOfRange → ℕ
number_of out.OnError = 1
number_of out.OnBits = 2

abbrev pub outside_told : Result P.Price O.OutOfRange → ℕ
outside_told (Ok p) = 0
outside_told (Err e) = number_of e

-- the cost of an error and a number of bits
abbrev pub cost_of : P.Price → ℕ → ℕ → ℕ
cost_of p error bits = p.a * error + p.b * bits

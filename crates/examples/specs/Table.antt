-- The starred examples of document 01, a row for each claim.
use Rattle.std.specs.Prelude.{List, [], ◌∷◌, ℕ, replicate, set}
use Rattle.block.specs.Block.{Block}
use Rattle.block.specs.K5.{k5}
use Rattle.examples.specs.Example.{block, pair, Example, takes, keeps, uncodable, lists, no_corner, fits, none_fits}

unfoldable pub tens : List ℕ
tens = replicate 64 10

-- A: all zero
abbrev block_a : Block
block_a = block [] tens k5

-- B: position 1 is 1
abbrev block_b : Block
block_b = block (1 ∷ []) tens k5

-- C: as B with step 3
abbrev block_c : Block
block_c = block (1 ∷ []) (replicate 64 3) k5

-- D: position 63 is 1
abbrev block_d : Block
block_d = block (63 ∷ []) tens k5

-- E and F: position 16 or 17 is 1
abbrev block_e : Block
block_e = block (16 ∷ []) tens k5

abbrev block_f : Block
block_f = block (17 ∷ []) tens k5

-- G: positions 1 and 17 are 1, step 2 at position 1
abbrev block_g : Block
block_g = block (1 ∷ 17 ∷ []) (set tens 1 2) k5

-- H: positions 1 and 3 are 1, lengths 2/1 2 and 1/1 16
abbrev block_h : Block
block_h = block (1 ∷ 3 ∷ []) tens (set (set k5 33 2) 17 16)

-- I: no end of block, all zero
abbrev block_i : Block
block_i = block [] tens (set k5 0 0)

-- J: no end of block, position 63 is 1
abbrev block_j : Block
block_j = block (63 ∷ []) tens (set k5 0 0)

unfoldable pub table : List Example
table =
    takes block_a [] 4 0
    ∷ lists (block_a ∷ []) (pair 4 0 ∷ [])
    ∷ takes block_b [] 4 100
    ∷ takes block_b (1 ∷ []) 7 0
    ∷ lists (block_b ∷ []) (pair 4 100 ∷ pair 7 0 ∷ [])
    ∷ keeps block_b 1 33 (1 ∷ []) 2
    ∷ keeps block_b 1 34 [] 0
    -- both cost 21
    ∷ takes block_c [] 4 9
    ∷ takes block_c (1 ∷ []) 7 0
    ∷ keeps block_c 1 3 [] 0
    ∷ takes block_d [] 4 100
    ∷ takes block_d (63 ∷ []) 50 0
    ∷ lists (block_d ∷ []) (pair 4 100 ∷ pair 50 0 ∷ [])
    -- a longer run is cheaper
    ∷ takes block_e (16 ∷ []) 21 0
    ∷ takes block_f (17 ∷ []) 18 0
    -- corners: all but {1}
    ∷ takes block_g [] 4 104
    ∷ takes block_g (1 ∷ []) 7 100
    ∷ takes block_g (17 ∷ []) 18 4
    ∷ takes block_g (1 ∷ 17 ∷ []) 24 0
    ∷ lists (block_g ∷ []) (pair 4 104 ∷ pair 18 4 ∷ pair 24 0 ∷ [])
    ∷ no_corner (block_g ∷ []) (pair 7 100)
    ∷ keeps block_g 1 1 (17 ∷ []) 131072
    -- the smaller keep number wins
    ∷ takes block_h (1 ∷ []) 7 100
    ∷ takes block_h (3 ∷ []) 7 100
    ∷ keeps block_h 1 10 (1 ∷ []) 2
    ∷ uncodable block_i
    ∷ takes block_j (63 ∷ []) 50 0
    ∷ keeps block_j 1 8000000000000 (63 ∷ []) 9223372036854775808
    ∷ lists (block_j ∷ []) (pair 50 0 ∷ [])
    -- K: two blocks as B; what lies between the corners is none
    ∷ lists (block_b ∷ block_b ∷ []) (pair 8 200 ∷ pair 14 0 ∷ [])
    ∷ no_corner (block_b ∷ block_b ∷ []) (pair 11 100)
    -- M: budgets on B
    ∷ none_fits (block_b ∷ []) 3 4
    ∷ fits (block_b ∷ []) 4 (pair 4 100)
    -- N: a budget on G, though {1} fits
    ∷ fits (block_g ∷ []) 17 (pair 4 104)
    ∷ []

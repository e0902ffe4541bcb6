-- The nodes of a search, one by one.
use Rattle.std.specs.Prelude.{ℕ, get_or, replicate, slice_set}
use Rattle.forward.specs.declared.nodes.Node.{Node}
use Rattle.forward.specs.declared.nodes.Nodes.{Nodes}

-- room in which no node is made yet
abbrev pub no_nodes : Nodes
no_nodes = record { place = replicate 64 0; cost = replicate 64 0; sum = replicate 64 0; pred = replicate 64 0 }

abbrev pub node_at : Nodes → ℕ → Node
node_at nodes i = record { place = get_or nodes.place i 0; cost = get_or nodes.cost i 0; sum = get_or nodes.sum i 0; pred = get_or nodes.pred i 0 }

abbrev pub put : Nodes → ℕ → Node → Nodes
put nodes i node = record { place = slice_set nodes.place i node.place; cost = slice_set nodes.cost i node.cost; sum = slice_set nodes.sum i node.sum; pred = slice_set nodes.pred i node.pred }

-- the lines so far
use Rattle.std.proofs.Common.{◌≡◌, ◌++◌, take}
use Rattle.dag_store.specs.Unfolding.{terms_of}
use Rattle.mdl_cli.specs.GraphText.{node_lines}
use Rattle.mdl_cli.proofs.graph_text.push_nodes.Given as goal

abbrev pub invariant-loop-id : goal.invariant-loop-id
invariant-loop-id l =
    l.text.items ≡ l.initial.text.items ++ node_lines (terms_of l.store) 0 (take l.id (terms_of l.store))

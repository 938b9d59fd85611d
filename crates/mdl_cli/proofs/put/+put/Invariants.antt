-- Each call puts fewer subterms. The kids so far are put, and their ids are those of their terms.
use Rattle.std.proofs.Common.{map, take, length, ◌*◌, ◌+◌}
use Rattle.std.specs.List.{flat_map}
use Rattle.type_rules.specs.Postorder.{post}
use Rattle.dag_store.specs.Unfolding.{terms_of}
use Rattle.mdl_cli.specs.inside.Trees.{term_of}
use Rattle.mdl_cli.proofs.PutLaws.{HasPut}
use Rattle.mdl_cli.proofs.put.+put.Given as goal

abbrev pub decreases-put_tree : goal.decreases-put_tree
decreases-put_tree l = 2 * length (post (term_of l.tree.now))

abbrev pub decreases-put_kids : goal.decreases-put_kids
decreases-put_kids l = 2 * length (flat_map post (map term_of l.kids.now)) + 1

abbrev pub invariant-put_kids-loop-kid : goal.invariant-put_kids-loop-kid
invariant-put_kids-loop-kid l =
    HasPut (terms_of l.initial.store) (terms_of l.store) (map term_of (take l.kid-index l.kids)) l.ids.items

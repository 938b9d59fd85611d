use Rattle.std.proofs.Common.{◌≡◌, ◌++◌, codes, take, flat_map}
use Rattle.module_set.specs.Names.{written_name}
use Rattle.mdl_cli.proofs.lines.push_path.Given as goal

-- the text so far
abbrev pub invariant-loop-name : goal.invariant-loop-name
invariant-loop-name l =
    l.line.items ≡ l.fn.line.items ++ flat_map (λ name. codes " " ++ written_name name) (take l.name-index l.path)

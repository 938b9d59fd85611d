use Rattle.std.proofs.Common.{◌≡◌, map, take, string_bytes}
use Rattle.mdl_cli.proofs.find.strings.Given as goal

abbrev pub invariant-loop-text : goal.invariant-loop-text
invariant-loop-text l = map string_bytes l.all.items ≡ take l.text-index l.texts

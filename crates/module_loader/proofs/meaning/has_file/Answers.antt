use Rattle.std.proofs.Common.{subst, map, string_bytes}
use Rattle.module_loader.specs.inside.Locating.{IsLocated}
use Rattle.module_loader.proofs.MemberLaws.{long-has}
use Rattle.module_loader.proofs.meaning.has_file.Goals as goal

pub returns-in-TooLong-clause-has : goal.returns-in-TooLong-clause-has
returns-in-TooLong-clause-has g c =
    long-has (map string_bytes c.args.roots.now) c.args.name.now c.locate.new.contents
    (subst (IsLocated (map string_bytes c.args.roots.now) c.args.name.now c.locate.new.contents) c.in-TooLong.is
    c.in_ok-locate.ensures.located)

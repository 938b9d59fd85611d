use Rattle.std.proofs.Common.{subst, map, string_bytes}
use Rattle.module_loader.specs.inside.Locating.{IsLocated}
use Rattle.module_loader.proofs.MemberLaws.{long-text}
use Rattle.module_loader.proofs.members.load_member.Goals as goal

pub returns-in_ok-copy-in-TooLong-clause-fault : goal.returns-in_ok-copy-in-TooLong-clause-fault
returns-in_ok-copy-in-TooLong-clause-fault g c = (
  c.in_ok-copy-in-TooLong.ensures,
  long-text (map string_bytes c.args.roots.now) c.args.name.now c.locate.new.contents
      (subst (IsLocated (map string_bytes c.args.roots.now) c.args.name.now c.locate.new.contents) c.in-TooLong.is
      c.in_ok-index.ensures.located),
)

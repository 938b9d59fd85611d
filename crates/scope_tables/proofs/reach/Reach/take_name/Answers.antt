use Rattle.std.proofs.Common.{refl, sym, ap, ◌∙◌, ◌||◌, ◌&&◌, true}
use Rattle.std.proofs.Math.Bool.{or_assoc, or-false}
use Rattle.scope_tables.specs.inside.Reaching.{is_listed, brings_it, names_it}
use Rattle.scope_tables.proofs.ReachLaws.{listed-more}
use Rattle.scope_tables.proofs.reach.Reach.take_name.Goals as goal

pub returns-then-used : goal.returns-then-used
returns-then-used c = record {
  of = refl;
  own = refl;
  imports = λ entity.
      ap (λ b. c.args.self.now.whole || b)
      (listed-more c.args.self.now.listed.keys c.note.new.names.keys c.args.name.now entity c.in_ok-note.ensures)
      ∙ sym (or_assoc c.args.self.now.whole (is_listed c.args.self.now.listed.keys entity)
      (names_it c.args.name.now entity));
  uses = λ entity.
      ap (λ b. c.args.self.now.whole_used || b)
      (listed-more c.args.self.now.used.keys c.note-then-used.new.names.keys c.args.name.now entity
      c.in_ok-note-2.ensures)
      ∙ sym (or_assoc c.args.self.now.whole_used (is_listed c.args.self.now.used.keys entity)
      (names_it c.args.name.now entity))
      ∙ ap (λ used. brings_it c.args.self.now entity true || (used && names_it c.args.name.now entity))
      (sym c.if-used.true);
}

pub returns : goal.returns
returns c = record {
  of = refl;
  own = refl;
  imports = λ entity.
      ap (λ b. c.args.self.now.whole || b)
      (listed-more c.args.self.now.listed.keys c.note.new.names.keys c.args.name.now entity c.in_ok-note.ensures)
      ∙ sym (or_assoc c.args.self.now.whole (is_listed c.args.self.now.listed.keys entity)
      (names_it c.args.name.now entity));
  uses = λ entity.
      sym (or-false (brings_it c.args.self.now entity true))
      ∙ ap (λ used. brings_it c.args.self.now entity true || (used && names_it c.args.name.now entity))
      (sym c.if-used.false);
}

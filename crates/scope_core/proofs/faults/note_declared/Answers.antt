use Rattle.std.proofs.Common.{◌≡◌, ◌∙◌, not, sym, ap, slice_set, arith}
use Rattle.std.specs.List.{list_any}
use Rattle.std.proofs.lemmas.Bool.{cond-true, cond-false}
use Rattle.case_table.specs.Lists.{with_first}
use Rattle.scope_core.specs.Standing.{is_prototype}
use Rattle.scope_tables.specs.inside.Kinds.{both, kinds_of}
use Rattle.scope_core.specs.inside.Lessening.{lesser}
use Rattle.scope_core.specs.inside.Noting.{is_twice, kinds_at, same_mark}
use Rattle.scope_core.proofs.TwiceLaws.{prototype-is}
use Rattle.scope_core.proofs.faults.note_declared.Goals as goal

pub returns-then-is_twice : goal.returns-then-is_twice
returns-then-is_twice c =
    let kinds = c.args.kinds.now in
    let keys : c.insert.new.self.keys
    ≡ with_first same_mark c.args.seen.now.keys (c.args.name, c.args.taken, is_prototype c.args.sort) =
    c.in_ok-fresh.ensures.keys ∙ ap
    (λ b. with_first same_mark c.args.seen.now.keys (c.args.name, c.args.taken, b))
    (c.eq.ensures ∙ prototype-is c.args.sort) in
    let added : c.in_ok-fresh.fresh
    ≡ not (list_any (same_mark (c.args.name, c.args.taken, is_prototype c.args.sort)) c.args.seen.now.keys) =
    c.in_ok-fresh.ensures.added ∙ ap
    (λ b. not (list_any (same_mark (c.args.name, c.args.taken, b)) c.args.seen.now.keys))
    (c.eq.ensures ∙ prototype-is c.args.sort) in
    let together : c.and-together.result ≡ both (kinds_at kinds c.args.name) (kinds_of c.args.sort) =
    c.and-together.ensures ∙ ap (both (kinds_at kinds c.args.name)) c.of.ensures in
    record {
      seen_is = keys;
      kinds_are = λ inside. ap (slice_set kinds c.args.name) together;
      least_is = λ inside.
          c.note.ensures
          ∙ sym (cond-true
          (is_twice (kinds_at kinds c.args.name) (both (kinds_at kinds c.args.name) (kinds_of c.args.sort))
          (not (list_any (same_mark (c.args.name, c.args.taken, is_prototype c.args.sort)) c.args.seen.now.keys)))
          (lesser c.args.least.now c.args.fault) c.args.least.now
          ((λ k. is_twice (kinds_at kinds c.args.name) (sym together k) (sym added k)) ∙ sym c.is_twice.ensures
          ∙ c.if-is_twice.true));
    }

pub returns-else-is_twice : goal.returns-else-is_twice
returns-else-is_twice c =
    let kinds = c.args.kinds.now in
    let keys : c.insert.new.self.keys
    ≡ with_first same_mark c.args.seen.now.keys (c.args.name, c.args.taken, is_prototype c.args.sort) =
    c.in_ok-fresh.ensures.keys ∙ ap
    (λ b. with_first same_mark c.args.seen.now.keys (c.args.name, c.args.taken, b))
    (c.eq.ensures ∙ prototype-is c.args.sort) in
    let added : c.in_ok-fresh.fresh
    ≡ not (list_any (same_mark (c.args.name, c.args.taken, is_prototype c.args.sort)) c.args.seen.now.keys) =
    c.in_ok-fresh.ensures.added ∙ ap
    (λ b. not (list_any (same_mark (c.args.name, c.args.taken, b)) c.args.seen.now.keys))
    (c.eq.ensures ∙ prototype-is c.args.sort) in
    let together : c.and-together.result ≡ both (kinds_at kinds c.args.name) (kinds_of c.args.sort) =
    c.and-together.ensures ∙ ap (both (kinds_at kinds c.args.name)) c.of.ensures in
    record {
      seen_is = keys;
      kinds_are = λ inside. ap (slice_set kinds c.args.name) together;
      least_is = λ inside.
          sym (cond-false
          (is_twice (kinds_at kinds c.args.name) (both (kinds_at kinds c.args.name) (kinds_of c.args.sort))
          (not (list_any (same_mark (c.args.name, c.args.taken, is_prototype c.args.sort)) c.args.seen.now.keys)))
          (lesser c.args.least.now c.args.fault) c.args.least.now
          ((λ k. is_twice (kinds_at kinds c.args.name) (sym together k) (sym added k)) ∙ sym c.is_twice.ensures
          ∙ c.if-is_twice.false));
    }

pub returns-else-name-kinds : goal.returns-else-name-kinds
returns-else-name-kinds c =
    record {
      seen_is =
          c.in_ok-fresh.ensures.keys ∙ ap
          (λ b. with_first same_mark c.args.seen.now.keys (c.args.name, c.args.taken, b))
          (c.eq.ensures ∙ prototype-is c.args.sort);
      kinds_are = λ inside. absurd (omega (arith, inside, c.if-name-kinds.false));
      least_is = λ inside. absurd (omega (arith, inside, c.if-name-kinds.false));
    }

-- A new symbol leaves the terms of the nodes, whose symbols were there.
use Rattle.std.proofs.Common.{◌≡◌, ◌+◌, ◌<◌, ◌^◌, false, Some, [], ◌∷◌, ◌++◌, length, slice_get, subst}
use Rattle.std.proofs.Common.{sym, ◌∙◌, ap, arith}
use Rattle.std.specs.List.{list_any}
use Rattle.case_table.specs.ListLaws.{with_first-known, list_any-slice_get, slice_get-push}
use Rattle.type_rules.specs.Same.{same_symbol}
use Rattle.type_rules.specs.TermLaws.{same_symbol-tells}
use Rattle.dag_store.specs.Store.{Kept}
use Rattle.dag_store.specs.Unfolding.{terms_of, IsShared}
use Rattle.dag_store.specs.StoreLaws.{terms_of-more_symbols, IsShared-more_symbols}
use Rattle.dag_store.proofs.store.Store.intern.Goals as goal

pub returns-in-Some-clause-symbols : goal.returns-in-Some-clause-symbols
returns-in-Some-clause-symbols c =
    let all = c.deref.ensures.value ∙ ap (λ (k : Kept). k.symbols) c.self.view_is in
    let at = subst (λ ss. slice_get ss c.in-Some.number ≡ Some c.args.symbol.now) all
    c.in-Some.ensures.found in
    let symbols = c.args.self.now.symbols in
    let wanted = c.args.symbol.now in
    let there = list_any-slice_get same_symbol same_symbol-tells symbols wanted c.in-Some.number at in
    sym (with_first-known same_symbol symbols wanted there)

-- the symbols after the copy was pushed
pushed : (c : goal.In_ok-push)
    → c.push.new.self.items ≡ c.self.inside.symbols.items ++ c.args.symbol.now ∷ []
pushed c = c.in_ok-push.ensures.items
    ∙ ap (λ s. c.self.inside.symbols.items ++ s ∷ []) c.in_ok-copied.ensures.cases

pub invariant_of-self-2 : goal.invariant_of-self-2
invariant_of-self-2 c =
    let kept : Kept = record { symbols = c.self.inside.symbols.items; nodes = c.self.inside.nodes.items } in
    let absent = c.in_default.ensures.absent in
    let searched = c.deref.ensures.value in
    let new = subst (λ ss. list_any (same_symbol c.args.symbol.now) ss ≡ false) searched absent in
    let few : length kept.symbols + 1 < 2 ^ 32 = omega arith in
    subst (λ symbols. IsShared (record { symbols = symbols; nodes = kept.nodes })) (sym (pushed c))
    (IsShared-more_symbols kept c.args.symbol.now c.self.invariant new few)

pub returns-clause-number : goal.returns-clause-number
returns-clause-number c =
    let symbols = c.self.inside.symbols.items in
    let number : c.len-number.result ≡ length symbols = omega arith in
    ap (slice_get c.push.new.self.items) number ∙ ap (λ ss. slice_get ss (length symbols)) (pushed c)
    ∙ slice_get-push symbols c.args.symbol.now

pub returns-clause-terms : goal.returns-clause-terms
returns-clause-terms c =
    let kept : Kept = record { symbols = c.self.inside.symbols.items; nodes = c.self.inside.nodes.items } in
    ap (λ symbols. terms_of (record { symbols = symbols; nodes = kept.nodes })) (pushed c)
    ∙ terms_of-more_symbols kept (c.args.symbol.now ∷ []) c.self.invariant ∙ ap terms_of c.self.view_is

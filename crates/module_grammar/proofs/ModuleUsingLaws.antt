-- What the reader of modules holds through `using`.
use Rattle.std.proofs.Common.{◌≡◌, ◌∙◌, sym, ap, subst, refl, ℕ, List, [], ◌∷◌, ◌++◌}
use Rattle.std.proofs.Common.{codes, Option, Some, None}
use Rattle.std.proofs.lemmas.List.{append_assoc}
use Rattle.mdl_lexer.specs.Kinds.{mark_word, name_word}
use Rattle.mdl_lexer.specs.declared.token.Kind.TheVariants as kind
use Rattle.mdl_lexer.specs.declared.token.Token.{Token}
use Rattle.mdl_syntax.specs.declared.names.Ident.{Ident}
use Rattle.mdl_syntax.specs.declared.expressions.Lit.TheVariants as lit
use Rattle.mdl_syntax.specs.declared.imports.Lead.TheVariants as lead
use Rattle.mdl_syntax.specs.declared.imports.ModuleRef.{ModuleRef}
use Rattle.mdl_syntax.specs.declared.imports.Import.TheVariants as import_form
use Rattle.mdl_syntax.specs.Words.{ident_word}
use Rattle.mdl_syntax.specs.Placed.{placed_ident}
use Rattle.mdl_syntax.specs.WrittenModules.{write_import, used_words}
use Rattle.mdl_syntax.specs.PlacedModules.{placed_import, placed_used}
use Rattle.expression_grammar.specs.Readings.{kinds}
use Rattle.expression_grammar.specs.inside.Machine.{Sort, identifier, other_literal, binary_operator}
use Rattle.expression_grammar.specs.inside.Machine.{comma}
use Rattle.expression_grammar.specs.inside.Machine.{semicolon, equals, import_word, ident_at, from_to}
use Rattle.expression_grammar.specs.inside.Sorts.{IsOf}
use Rattle.expression_grammar.specs.inside.Sound.{place}
use Rattle.module_grammar.specs.inside.ModuleParts.{Part}
use Rattle.module_grammar.specs.inside.ModuleStates.{Begun, Naming, unnamed, parted}
use Rattle.module_grammar.specs.inside.ModuleStates.{using, used_wanted, used_read, used_next}
use Rattle.module_grammar.specs.inside.ModuleStates.{used_all}
use Rattle.module_grammar.specs.inside.ModuleMachine.{naming_or, using_step}
use Rattle.module_grammar.specs.inside.ModuleStates.{within, naming_step}
use Rattle.module_grammar.specs.inside.ModuleMachine.{used_ends}
use Rattle.module_grammar.specs.inside.ModuleStates.{with_import, module_name, on}
use Rattle.module_grammar.specs.inside.ModuleMachine.{used_wanted_step, used_read_step, used_next_step}
use Rattle.module_grammar.specs.inside.ModuleMachine.{used_all_step}
use Rattle.module_grammar.specs.inside.ModuleHolds.{PositionHolds, BegunStands, Early, AtLeastOne}
use Rattle.module_grammar.specs.inside.ModuleHolds.{Then}
use Rattle.module_grammar.specs.inside.ModuleHolds.{UsingBegun, UsedBegun}
use Rattle.module_grammar.specs.inside.ModuleHolds.{NamesStand, ModuleHolds}
use Rattle.expression_grammar.proofs.KindLaws.{not_empty, not_empty_append}
use Rattle.module_grammar.proofs.ModuleListLaws.{several_kept}
use Rattle.module_grammar.proofs.ModuleListLaws.{first_of_several, one_more_of_several}
use Rattle.module_grammar.proofs.ModuleNameLaws.{NamingNext, naming_keeps, module_named}
use Rattle.module_grammar.proofs.ModuleJoinLaws.{OutcomeHolds, stays, star_is, if_star, then_more}
use Rattle.module_grammar.proofs.ModuleJoinLaws.{then_with, behind_with, then_map, with_import_holds}
use Rattle.module_grammar.proofs.ModuleJoinLaws.{ends_with}
use Rattle.module_grammar.proofs.ModuleImportLaws.{using_whole}

using_naming : (begun : Begun) (at : ℕ) (found : Option Naming) (token : Token)
    (before own : List Token) → BegunStands begun before → Early begun →
    Then (UsingBegun at) (NamingNext found) (own ++ token ∷ []) →
    OutcomeHolds (naming_or (λ next. within begun (using at next)) found)
    ((before ++ own) ++ token ∷ [])
using_naming begun at None token before own stands early held = tt
using_naming begun at (Some naming) token before own stands early held =
    stays begun (using at naming) before own token stands early held

pub using_keeps : (begun : Begun) (at : ℕ) (naming : Naming) (sort : Sort) (token : Token)
    (before own : List Token) → IsOf sort token.kind → BegunStands begun before → Early begun →
    PositionHolds (using at naming) own →
    OutcomeHolds (using_step begun at naming sort (place token)) ((before ++ own) ++ token ∷ [])
using_keeps begun at unnamed (other_literal (lit.Str text)) token before own is stands early held =
    tt
using_keeps begun at (parted lead.Bare from (part ∷ []) end) equals token before own is stands early
    held = tt
using_keeps begun at (parted lead from parts end) import_word token before own is stands early held =
    stays begun (used_wanted at (module_name lead from parts end)) before own token stands early
    (behind_with (name_word (codes "import")) own token
    (then_map own held (λ back one. module_named lead from parts end back one)) is)
using_keeps begun at naming sort token before own is stands early held =
    using_naming begun at (naming_step naming sort (place token)) token before own stands early
    (then_more own (token ∷ []) held (λ back one. naming_keeps naming sort token back is one))

one_name : (text : List ℕ) (token : Token) → token.kind ≡ kind.Word text →
    Part (λ name. ident_word name ∷ []) placed_ident (ident_at text (place token)) (token ∷ [])
one_name text token is = record { writes = λ i. sym is i ∷ []; places = refl }

pub used_wanted_keeps : (begun : Begun) (at : ℕ) (name : ModuleRef) (sort : Sort) (token : Token)
    (before own : List Token) → IsOf sort token.kind → BegunStands begun before → Early begun →
    PositionHolds (used_wanted at name) own →
    OutcomeHolds (used_wanted_step begun at name sort (place token)) ((before ++ own) ++ token ∷ [])
used_wanted_keeps begun at name (identifier text) token before own is stands early held =
    stays begun (used_read at name (ident_at text (place token) ∷ [])) before own token stands early
    (then_with own (token ∷ []) held (record {
      stand = first_of_several (λ name. ident_word name ∷ []) placed_ident
          (ident_at text (place token)) (token ∷ []) (one_name text token is);
      some = not_empty (ident_at text (place token)) [];
    }))
used_wanted_keeps begun at name (binary_operator op level) token before own is stands early held =
    if_star op (on (within begun (used_all at name))) ((before ++ own) ++ token ∷ [])
    (λ same. stays begun (used_all at name) before own token stands early
    (behind_with (mark_word (codes "*")) own token held (star_is op token is.0 same)))
used_wanted_keeps begun at name (other_literal (lit.Str text)) token before own is stands early
    held = tt
used_wanted_keeps begun at name (other_literal other) token before own is stands early held = tt
used_wanted_keeps begun at name _ token before own is stands early held = tt

in_five : (word : Token) (owns : List Token) (between : Token) (used : List Token) (last : Token) →
    word ∷ (owns ++ between ∷ (used ++ last ∷ []))
    ≡ ((((word ∷ []) ++ owns) ++ between ∷ []) ++ used) ++ last ∷ []
in_five word owns between used last = simp (append_assoc)

used_ends_keeps : (begun : Begun) (at : ℕ) (name : ModuleRef) (names : Option (List Ident))
    (token : Token) (before front used own : List Token) → token.kind ≡ mark_word (codes ";") →
    BegunStands begun before → Early begun → UsedBegun at name front →
    used_words names ≡ kinds used →
    ((rest : List Token) → placed_used names (used ++ rest) ≡ names) → front ++ used ≡ own →
    OutcomeHolds (used_ends begun at name names (place token)) ((before ++ own) ++ token ∷ [])
used_ends_keeps begun at name names token before front used own is stands early held written kept
    are =
    let start = held.one in
    let word = start.one in
    subst (λ t. ModuleHolds (with_import begun (import_form.Using name names (from_to at token.end))
    token.end) t) (sym (append_assoc before own (token ∷ [])))
    (with_import_holds begun (import_form.Using name names (from_to at token.end)) token.end before
    (own ++ token ∷ []) stands early
    (subst (λ a. Part write_import placed_import
    (import_form.Using name names (from_to a token.end)) (own ++ token ∷ [])) (sym word.here)
    (subst (λ t. Part write_import placed_import
    (import_form.Using name names (from_to word.token.at token.end)) t)
    (in_five word.token start.back held.last used token
    ∙ (ap (λ f. (((f ++ start.back) ++ held.last ∷ []) ++ used) ++ token ∷ []) word.are
    ∙ (ap (λ f. ((f ++ held.last ∷ []) ++ used) ++ token ∷ []) start.are
    ∙ (ap (λ f. (f ++ used) ++ token ∷ []) held.are ∙ ap (λ f. f ++ token ∷ []) are))))
    (using_whole word.token name start.back held.last names used token word.is start.other held.is
    written kept is))) (ends_with own token))

pub used_read_keeps : (begun : Begun) (at : ℕ) (name : ModuleRef) (names : List Ident) (sort : Sort)
    (token : Token) (before own : List Token) → IsOf sort token.kind → BegunStands begun before →
    Early begun → PositionHolds (used_read at name names) own →
    OutcomeHolds (used_read_step begun at name names sort (place token))
    ((before ++ own) ++ token ∷ [])
used_read_keeps begun at name names comma token before own is stands early held =
    stays begun (used_next at name names) before own token stands early
    (behind_with (mark_word (codes ",")) own token held is)
used_read_keeps begun at name names semicolon token before own is stands early held =
    used_ends_keeps begun at name (Some names) token before held.front held.back own is stands early
    held.one held.other.stand.writes
    (λ rest. ap Some (several_kept (λ name. ident_word name ∷ []) placed_ident names held.back rest
    held.other.stand)) held.are
used_read_keeps begun at name names _ token before own is stands early held = tt

pub used_next_keeps : (begun : Begun) (at : ℕ) (name : ModuleRef) (names : List Ident) (sort : Sort)
    (token : Token) (before own : List Token) → IsOf sort token.kind → BegunStands begun before →
    Early begun → PositionHolds (used_next at name names) own →
    OutcomeHolds (used_next_step begun at name names sort (place token))
    ((before ++ own) ++ token ∷ [])
used_next_keeps begun at name names (identifier text) token before own is stands early held =
    let ident = ident_at text (place token) in
    stays begun (used_read at name (names ++ ident ∷ [])) before own token stands early
    (subst (λ t. Then (UsedBegun at name) (AtLeastOne NamesStand (names ++ ident ∷ [])) t)
    (sym (append_assoc held.front (held.last ∷ []) (token ∷ [])) ∙ ap (λ t. t ++ token ∷ [])
    held.are)
    (then_more held.front (held.last ∷ token ∷ []) held.one
    (λ back one. record {
      stand = one_more_of_several (λ name. ident_word name ∷ []) placed_ident names ident back
          held.last (token ∷ []) one.some held.is one.stand (one_name text token is);
      some = not_empty_append names ident [];
    })))
used_next_keeps begun at name names _ token before own is stands early held = tt

pub used_all_keeps : (begun : Begun) (at : ℕ) (name : ModuleRef) (sort : Sort) (token : Token)
    (before own : List Token) → IsOf sort token.kind → BegunStands begun before → Early begun →
    PositionHolds (used_all at name) own →
    OutcomeHolds (used_all_step begun at name sort (place token)) ((before ++ own) ++ token ∷ [])
used_all_keeps begun at name semicolon token before own is stands early held =
    used_ends_keeps begun at name None token before held.front (held.last ∷ []) own is stands early
    held.one (λ i. sym held.is i ∷ []) (λ rest. refl) held.are
used_all_keeps begun at name _ token before own is stands early held = tt

-- What the reader of modules holds through imports.
use Rattle.std.proofs.Common.{◌≡◌, ◌∙◌, sym, ap, subst, refl, arith, ◌+◌, suc, length, drop, ℕ}
use Rattle.std.proofs.Common.{List, [], ◌∷◌, ◌++◌}
use Rattle.std.proofs.Common.{codes, Option, Some, None}
use Rattle.std.proofs.lemmas.List.{append_assoc}
use Rattle.mdl_lexer.specs.Kinds.{mark_word, name_word}
use Rattle.mdl_lexer.specs.declared.token.Kind.{Kind}
use Rattle.mdl_lexer.specs.declared.token.Token.{Token}
use Rattle.mdl_syntax.specs.declared.names.Ident.{Ident}
use Rattle.mdl_syntax.specs.declared.expressions.Lit.TheVariants as lit
use Rattle.mdl_syntax.specs.declared.imports.Lead.{Lead}
use Rattle.mdl_syntax.specs.declared.imports.ModuleRef.{ModuleRef}
use Rattle.mdl_syntax.specs.declared.imports.Qualified.{Qualified}
use Rattle.mdl_syntax.specs.declared.imports.Import.TheVariants as import_form
use Rattle.mdl_syntax.specs.Placed.{behind}
use Rattle.mdl_syntax.specs.WrittenModules.{qualified_words, write_import, module_words, used_words}
use Rattle.mdl_syntax.specs.PlacedModules.{placed_qualified, placed_import, placed_used}
use Rattle.expression_grammar.specs.Readings.{kinds}
use Rattle.expression_grammar.specs.inside.Machine.{Sort, other_literal, binary_operator, comma}
use Rattle.expression_grammar.specs.inside.Machine.{semicolon, from_to}
use Rattle.expression_grammar.specs.inside.Sorts.{IsOf}
use Rattle.expression_grammar.specs.inside.Sound.{place}
use Rattle.module_grammar.specs.inside.ModuleParts.{Part}
use Rattle.module_grammar.specs.inside.ModuleStates.{Begun, Naming, unnamed, parted, open_ended}
use Rattle.module_grammar.specs.inside.ModuleStates.{importing, imported}
use Rattle.module_grammar.specs.inside.ModuleStates.{within}
use Rattle.module_grammar.specs.inside.ModuleMachine.{import_ends, import_item, import_step, all_of}
use Rattle.module_grammar.specs.inside.ModuleMachine.{naming_or}
use Rattle.module_grammar.specs.inside.ModuleStates.{naming_step, with_import}
use Rattle.module_grammar.specs.inside.ModuleStates.{qualified_from, module_name, on}
use Rattle.module_grammar.specs.inside.ModuleHolds.{PositionHolds, BegunStands, Early, Open}
use Rattle.module_grammar.specs.inside.ModuleHolds.{AtLeastOne}
use Rattle.module_grammar.specs.inside.ModuleHolds.{Then, Behind, ImportBegun, ItemsStand}
use Rattle.module_grammar.specs.inside.ModuleHolds.{ModuleNamed}
use Rattle.module_grammar.specs.inside.ModuleHolds.{ModuleHolds, Parted}
use Rattle.expression_grammar.proofs.KindLaws.{kinds_append, behind_front}
use Rattle.module_grammar.proofs.ModuleListLaws.{several_kept, whole_place, are_on}
use Rattle.module_grammar.proofs.ModuleNameLaws.{NamingNext, naming_keeps, module_named, module_kept}
use Rattle.module_grammar.proofs.ModuleNameLaws.{parted_begins, all_stand, QualifiedNext}
use Rattle.module_grammar.proofs.ModuleNameLaws.{qualified_keeps, QualifiedStands}
use Rattle.module_grammar.proofs.ModuleJoinLaws.{OutcomeHolds, stays, star_is, if_star, then_more}
use Rattle.module_grammar.proofs.ModuleJoinLaws.{then_nothing}
use Rattle.module_grammar.proofs.ModuleJoinLaws.{open_more, several_open, with_import_holds, ends_with}

-- Whole imports.

import_whole : (word : Token) (items : List Qualified) (own : List Token) (last : Token) →
    word.kind ≡ name_word (codes "import") → ItemsStand items own →
    last.kind ≡ mark_word (codes ";") →
    Part write_import placed_import (import_form.Import items (from_to word.at last.end))
    (word ∷ (own ++ last ∷ []))
import_whole word items own last is stand ends = record {
  writes = (λ i. sym is i ∷ (stand.writes i ++ sym ends i ∷ []))
      ∙ ap (λ k. word.kind ∷ k) (sym (kinds_append own (last ∷ [])));
  places = λ i. import_form.Import
      (several_kept qualified_words placed_qualified items own (last ∷ []) stand i)
      (whole_place word.at (word ∷ own) last (word ∷ (own ++ last ∷ [])) refl refl i);
}

later : (n : ℕ) → n + 2 ≡ suc (n + 1)
later n = omega arith

-- one token before, and two behind as many tokens as the words
two_later : (word : Token) (words : List Kind) (owns : List Token) (between : Token)
    (rest : List Token) → words ≡ kinds owns →
    behind words 2 (word ∷ (owns ++ between ∷ rest)) ≡ rest
two_later word words owns between rest is =
    ap (λ n. drop n (word ∷ (owns ++ between ∷ rest))) (later (length words))
    ∙ behind_front words 1 owns (between ∷ rest) is

pub using_whole : (word : Token) (name : ModuleRef) (owns : List Token) (between : Token)
    (names : Option (List Ident)) (used : List Token) (last : Token) →
    word.kind ≡ name_word (codes "using") → ModuleNamed name owns →
    between.kind ≡ name_word (codes "import") → used_words names ≡ kinds used →
    ((rest : List Token) → placed_used names (used ++ rest) ≡ names) →
    last.kind ≡ mark_word (codes ";") →
    Part write_import placed_import (import_form.Using name names (from_to word.at last.end))
    (word ∷ (owns ++ between ∷ (used ++ last ∷ [])))
using_whole word name owns between names used last is named parts written kept ends =
    let tail = between ∷ (used ++ last ∷ []) in record {
      writes = (λ i. sym is i ∷ (named.writes i ++ sym parts i ∷ (written i ++ sym ends i ∷ [])))
          ∙ (ap (λ k. word.kind ∷ (kinds owns ++ between.kind ∷ k))
          (sym (kinds_append used (last ∷ [])))
          ∙ ap (λ k. word.kind ∷ k) (sym (kinds_append owns tail)));
      places = λ i. import_form.Using (module_kept name owns tail named i)
          ((ap (placed_used names) (two_later word (module_words name) owns between (used ++ last ∷ [])
          named.writes) ∙ kept (last ∷ [])) i)
          (whole_place word.at (word ∷ (owns ++ between ∷ used)) last (word ∷ (owns ++ tail)) refl
          (ap (λ t. word ∷ t) (append_assoc owns (between ∷ used) (last ∷ []))) i);
    }

-- Steps of `import`.

import_ends_keeps : (begun : Begun) (at : ℕ) (items : List Qualified) (sort : Sort) (token : Token)
    (before own : List Token) → IsOf sort token.kind → BegunStands begun before → Early begun →
    Then (ImportBegun at) (AtLeastOne ItemsStand items) own →
    OutcomeHolds (import_ends begun at items sort (place token)) ((before ++ own) ++ token ∷ [])
import_ends_keeps begun at items comma token before own is stands early held =
    stays begun (importing at items unnamed) before own token stands early
    (then_nothing (own ++ token ∷ []) (then_more own (token ∷ []) held
    (λ back one. open_more ItemsStand items back token one is)))
import_ends_keeps begun at items semicolon token before own is stands early held =
    subst (λ t. ModuleHolds (with_import begun (import_form.Import items (from_to at token.end))
    token.end) t) (sym (append_assoc before own (token ∷ [])))
    (with_import_holds begun (import_form.Import items (from_to at token.end)) token.end before
    (own ++ token ∷ []) stands early
    (subst (λ a. Part write_import placed_import (import_form.Import items (from_to a token.end))
    (own ++ token ∷ [])) (sym held.one.here)
    (subst (λ t. Part write_import placed_import
    (import_form.Import items (from_to held.one.token.at token.end)) t)
    (ap (λ f. f ++ (held.back ++ token ∷ [])) held.one.are
    ∙ are_on held.front held.back own (token ∷ []) held.are)
    (import_whole held.one.token items held.back token held.one.is held.other.stand is)))
    (ends_with own token))
import_ends_keeps begun at items _ token before own is stands early held = tt

item_keeps : (begun : Begun) (at : ℕ) (items : List Qualified) (found : Option Qualified)
    (sort : Sort) (token : Token) (before own : List Token) → IsOf sort token.kind →
    BegunStands begun before → Early begun →
    Then (Then (ImportBegun at) (Open ItemsStand items)) (QualifiedNext found) own →
    OutcomeHolds (import_item begun at items found sort (place token))
    ((before ++ own) ++ token ∷ [])
item_keeps begun at items None sort token before own is stands early held = tt
item_keeps begun at items (Some item) sort token before own is stands early held =
    import_ends_keeps begun at (items ++ item ∷ []) sort token before own is stands early
    (subst (Then (ImportBegun at) (AtLeastOne ItemsStand (items ++ item ∷ []))) held.are
    (then_more held.front held.back held.one
    (λ back one. several_open qualified_words placed_qualified items item back held.back one
    held.other)))

import_naming : (begun : Begun) (at : ℕ) (items : List Qualified) (found : Option Naming)
    (token : Token) (before own : List Token) → BegunStands begun before → Early begun →
    Then (Then (ImportBegun at) (Open ItemsStand items)) (NamingNext found) (own ++ token ∷ []) →
    OutcomeHolds (naming_or (λ next. within begun (importing at items next)) found)
    ((before ++ own) ++ token ∷ [])
import_naming begun at items None token before own stands early held = tt
import_naming begun at items (Some naming) token before own stands early held =
    stays begun (importing at items naming) before own token stands early held

parted_item : (at : ℕ) (items : List Qualified) (lead : Lead) (from : ℕ) (parts : List Ident)
    (end : ℕ) (own : List Token) →
    Then (Then (ImportBegun at) (Open ItemsStand items)) (Parted lead from parts end) own →
    Then (Then (ImportBegun at) (Open ItemsStand items))
    (QualifiedNext (qualified_from lead from parts end)) own
parted_item at items lead from parts end own held = record {
  front = held.front;
  back = held.back;
  one = held.one;
  other = qualified_keeps lead from parts end held.back held.other;
  are = held.are;
}

-- `*` behind a name
all_of_it : (lead : Lead) (from : ℕ) (parts : List Ident) (end : ℕ) (tokens : List Token)
    (star : Token) → Behind (Parted lead from parts end) (mark_word (codes "::")) tokens →
    star.kind ≡ mark_word (codes "*") →
    QualifiedStands (all_of lead from parts end star.end) (tokens ++ star ∷ [])
all_of_it lead from parts end tokens star held is =
    subst (QualifiedStands (all_of lead from parts end star.end))
    (sym (append_assoc held.front (held.last ∷ []) (star ∷ [])) ∙ ap (λ t. t ++ star ∷ []) held.are)
    (all_stand (module_name lead from parts end) from held.front held.last star
    (module_named lead from parts end held.front held.one)
    (parted_begins lead from parts end held.front held.one) held.is is)

pub import_keeps : (begun : Begun) (at : ℕ) (items : List Qualified) (naming : Naming)
    (sort : Sort) (token : Token) (before own : List Token) → IsOf sort token.kind →
    BegunStands begun before → Early begun → PositionHolds (importing at items naming) own →
    OutcomeHolds (import_step begun at items naming sort (place token))
    ((before ++ own) ++ token ∷ [])
import_keeps begun at [] unnamed (other_literal (lit.Str text)) token before own is stands early
    held = tt
import_keeps begun at items (parted lead from parts end) comma token before own is stands early
    held =
    item_keeps begun at items (qualified_from lead from parts end) comma token before own is stands
    early (parted_item at items lead from parts end own held)
import_keeps begun at items (parted lead from parts end) semicolon token before own is stands early
    held =
    item_keeps begun at items (qualified_from lead from parts end) semicolon token before own is
    stands early (parted_item at items lead from parts end own held)
import_keeps begun at items (open_ended lead from parts end) (binary_operator op level) token before
    own is stands early held =
    let items_now = items ++ all_of lead from parts end token.end ∷ [] in
    if_star op (on (within begun (imported at items_now))) ((before ++ own) ++ token ∷ [])
    (λ same. stays begun (imported at items_now) before own token stands early
    (subst (λ t. Then (ImportBegun at) (AtLeastOne ItemsStand items_now) t)
    (are_on held.front held.back own (token ∷ []) held.are)
    (then_more held.front (held.back ++ token ∷ []) held.one
    (λ back one. several_open qualified_words placed_qualified items
    (all_of lead from parts end token.end) back (held.back ++ token ∷ []) one
    (all_of_it lead from parts end held.back token held.other (star_is op token is.0 same))))))
import_keeps begun at items naming sort token before own is stands early held =
    import_naming begun at items (naming_step naming sort (place token)) token before own stands
    early (then_more own (token ∷ []) held
    (λ back one. naming_keeps naming sort token back is one))

pub imported_keeps : (begun : Begun) (at : ℕ) (items : List Qualified) (sort : Sort)
    (token : Token) (before own : List Token) → IsOf sort token.kind → BegunStands begun before →
    Early begun → PositionHolds (imported at items) own →
    OutcomeHolds (import_ends begun at items sort (place token)) ((before ++ own) ++ token ∷ [])
imported_keeps begun at items sort token before own is stands early held =
    import_ends_keeps begun at items sort token before own is stands early held

-- What comes of a token holds, where the reader of modules goes on.
use Rattle.std.proofs.Common.{◌≡◌, ◌∙◌, sym, ap, subst, refl, arith, ℕ, Bool, true, false}
use Rattle.std.proofs.Common.{List, [], ◌∷◌, ◌++◌, length, codes, Some}
use Rattle.std.proofs.Common.{if◌then◌else◌}
use Rattle.std.proofs.lemmas.Bool.{eqb-true}
use Rattle.std.proofs.lemmas.List.{append-nil, append_assoc}
use Rattle.mdl_lexer.specs.Kinds.{mark_word}
use Rattle.mdl_lexer.specs.declared.token.Kind.{Kind}
use Rattle.mdl_lexer.specs.declared.token.Kind.TheVariants as kind
use Rattle.mdl_lexer.specs.declared.token.Token.{Token}
use Rattle.mdl_syntax.specs.declared.imports.Import.{Import}
use Rattle.mdl_syntax.specs.Levels.{mark_number}
use Rattle.mdl_syntax.specs.Placed.{last_end}
use Rattle.mdl_syntax.specs.Modules.{Annotation, Declaration}
use Rattle.mdl_syntax.specs.WrittenModules.{write_import, write_declaration, write_own, write_each}
use Rattle.mdl_syntax.specs.PlacedModules.{placed_import, placed_declaration, placed_own}
use Rattle.expression_grammar.specs.Readings.{kinds}
use Rattle.module_grammar.specs.inside.ModuleParts.{Part, Several}
use Rattle.module_grammar.specs.inside.ModuleStates.{Outcome, on, wrong}
use Rattle.module_grammar.specs.inside.ModuleStates.{Begun, Position}
use Rattle.module_grammar.specs.inside.ModuleStates.{within, is_star, with_import, with_declaration}
use Rattle.module_grammar.specs.inside.ModuleStates.{item_wanted}
use Rattle.module_grammar.specs.inside.ModuleHolds.{ModuleHolds, PositionHolds, WithinHolds, EarlyAt}
use Rattle.module_grammar.specs.inside.ModuleHolds.{BegunStands, Early, Open, AtLeastOne, Behind, Then}
use Rattle.expression_grammar.proofs.KindLaws.{last_end_append, not_empty_append}
use Rattle.module_grammar.proofs.ModuleListLaws.{one_more_each, first_of_several, one_more_of_several}
use Rattle.module_grammar.proofs.ModuleListLaws.{are_on}

-- where the reader goes on, its state holds these tokens
abbrev pub OutcomeHolds : Outcome → List Token → Type 0
OutcomeHolds (on state) tokens = ModuleHolds state tokens
OutcomeHolds _ tokens = Unit {0}

-- in the same item
pub stays : (begun : Begun) (position : Position) (before own : List Token) (token : Token) →
    BegunStands begun before → EarlyAt position begun →
    PositionHolds position (own ++ token ∷ []) →
    WithinHolds begun position ((before ++ own) ++ token ∷ [])
stays begun position before own token stands early holds = record {
  before = before;
  own = own ++ token ∷ [];
  stands = stands;
  early = early;
  holds = holds;
  are = sym (append_assoc before own (token ∷ []));
}

pub star_is : (op : ℕ) (token : Token) → token.kind ≡ kind.Mark op → is_star op ≡ true →
    token.kind ≡ mark_word (codes "*")
star_is op token is same = is ∙ ap kind.Mark (eqb-true op (mark_number (codes "*")) same)

pub if_star : (op : ℕ) (outcome : Outcome) (tokens : List Token) →
    (is_star op ≡ true → OutcomeHolds outcome tokens) →
    OutcomeHolds (if is_star op then outcome else wrong) tokens
if_star op outcome tokens holds = by (is_star op) refl
  where
    by : (test : Bool) → is_star op ≡ test → OutcomeHolds (if test then outcome else wrong) tokens
    by true is = holds is
    by false is = tt

-- Beside each other.

pub then_more : {One Other Next : List Token → Type 0} (tokens more : List Token) →
    Then One Other tokens → ((back : List Token) → Other back → Next (back ++ more)) →
    Then One Next (tokens ++ more)
then_more tokens more held go = record {
  front = held.front;
  back = held.back ++ more;
  one = held.one;
  other = go held.back held.other;
  are = are_on held.front held.back tokens more held.are;
}

pub then_with : {One Other : List Token → Type 0} (tokens more : List Token) → One tokens →
    Other more → Then One Other (tokens ++ more)
then_with tokens more one other = record {
  front = tokens;
  back = more;
  one = one;
  other = other;
  are = refl;
}

-- behind these the next is nothing yet
pub then_nothing : {One : List Token → Type 0} (tokens : List Token) → One tokens →
    Then One (λ back. back ≡ []) tokens
then_nothing tokens one = record {
  front = tokens;
  back = [];
  one = one;
  other = refl;
  are = append-nil tokens;
}

pub behind_with : {One : List Token → Type 0} (word : Kind) (tokens : List Token)
    (token : Token) → One tokens → token.kind ≡ word → Behind One word (tokens ++ token ∷ [])
behind_with word tokens token one is = record {
  front = tokens;
  last = token;
  one = one;
  is = is;
  are = refl;
}

pub regroup : {One Two Three : List Token → Type 0} (tokens : List Token) →
    Then (Then One Two) Three tokens → Then One (Then Two Three) tokens
regroup tokens held = record {
  front = held.one.front;
  back = held.one.back ++ held.back;
  one = held.one.one;
  other = then_with held.one.back held.back held.one.other held.other;
  are = are_on held.one.front held.one.back held.front held.back held.one.are ∙ held.are;
}

pub then_map : {One Other Next : List Token → Type 0} (tokens : List Token) →
    Then One Other tokens → ((back : List Token) → Other back → Next back) → Then One Next tokens
then_map tokens held go = record {
  front = held.front;
  back = held.back;
  one = held.one;
  other = go held.back held.other;
  are = held.are;
}

-- Lists.

pub open_more : {A : Type 0} (Stand : List A → List Token → Type 0) (list : List A)
    (tokens : List Token) (token : Token) → AtLeastOne Stand list tokens →
    token.kind ≡ mark_word (codes ",") → Open Stand list (tokens ++ token ∷ [])
open_more Stand [] tokens token held is = absurd (held.some refl)
open_more Stand (one ∷ list) tokens token held is = record {
  front = tokens;
  last = token;
  one = held.stand;
  is = is;
  are = refl;
}

pub several_open : {A : Type 0} (write_one : A → List Kind) (place_one : A → List Token → A)
    (list : List A) (one : A) (tokens own : List Token) →
    Open (Several write_one place_one) list tokens → Part write_one place_one one own →
    AtLeastOne (Several write_one place_one) (list ++ one ∷ []) (tokens ++ own)
several_open write_one place_one [] one tokens own none part = record {
  stand = subst (λ t. Several write_one place_one (one ∷ []) (t ++ own)) (sym none)
      (first_of_several write_one place_one one own part);
  some = not_empty_append [] one [];
}
several_open write_one place_one (first ∷ list) one tokens own held part = record {
  stand = subst (Several write_one place_one (first ∷ (list ++ one ∷ [])))
      (sym (append_assoc held.front (held.last ∷ []) own) ∙ ap (λ t. t ++ own) held.are)
      (one_more_of_several write_one place_one (first ∷ list) one held.front held.last own some
      held.is held.one part);
  some = not_empty_append (first ∷ list) one [];
}
  where
    some : first ∷ list ≡ [] → ⊥
    some is = omega (arith, ap length is)

-- Whole items.

abbrev pub Ends : ℕ → List Token → Type 0
Ends end tokens = (at : ℕ) → last_end at tokens ≡ end

pub ends_with : (tokens : List Token) (token : Token) → Ends token.end (tokens ++ token ∷ [])
ends_with tokens token at = last_end_append at tokens (token ∷ [])

pub nothing_written : (tokens : List Token) → [] ≡ kinds tokens → tokens ≡ []
nothing_written [] is = refl
nothing_written (token ∷ tokens) is = absurd (omega (arith, ap length is))

early_tail : (begun : Begun) (before : List Token) (stands : BegunStands begun before) →
    Early begun → stands.owns ++ stands.declarations ≡ []
early_tail begun before stands early = λ i. owns i ++ declarations i
  where
    owns : stands.owns ≡ []
    owns = nothing_written stands.owns (ap write_own (sym early.annotations)
        ∙ stands.owns_stand.writes)

    declarations : stands.declarations ≡ []
    declarations = nothing_written stands.declarations (ap (write_each write_declaration)
        (sym early.declarations) ∙ stands.declarations_stand.writes)

import_lists : (a b c : List Token) → a ++ ((b ++ c) ++ []) ≡ (a ++ (b ++ [])) ++ c
import_lists a b c = simp (append_assoc, append-nil)

own_lists : (a b c : List Token) → a ++ (b ++ (c ++ [])) ≡ (a ++ (b ++ [])) ++ c
own_lists a b c = simp (append_assoc, append-nil)

declaration_lists : (a b c d e : List Token) →
    a ++ (b ++ (c ++ (d ++ e))) ≡ (a ++ (b ++ (c ++ d))) ++ e
declaration_lists a b c d e = simp (append_assoc)

whole_ends : (all before own : List Token) (end : ℕ) → all ≡ before ++ own → Ends end own →
    last_end 0 all ≡ end
whole_ends all before own end are ends =
    ap (last_end 0) are ∙ (last_end_append 0 before own ∙ ends (last_end 0 before))

pub with_import_holds : (begun : Begun) (one : Import) (end : ℕ) (before own : List Token) →
    BegunStands begun before → Early begun → Part write_import placed_import one own →
    Ends end own → ModuleHolds (with_import begun one end) (before ++ own)
with_import_holds begun one end before own stands early part ends = record {
  before = before ++ own;
  own = [];
  stands = record {
    front = stands.front;
    imports = stands.imports ++ own;
    owns = stands.owns;
    declarations = stands.declarations;
    version = stands.version;
    imports_stand = one_more_each write_import placed_import begun.imports one stands.imports own
        stands.imports_stand part;
    owns_stand = stands.owns_stand;
    declarations_stand = stands.declarations_stand;
    ends = whole_ends all before own end are ends;
    are = are;
  };
  early = record { annotations = early.annotations; declarations = early.declarations };
  holds = refl;
  are = append-nil (before ++ own);
}
  where
    all : List Token
    all = stands.front ++ ((stands.imports ++ own) ++ (stands.owns ++ stands.declarations))

    none : stands.owns ++ stands.declarations ≡ []
    none = early_tail begun before stands early

    are : all ≡ before ++ own
    are = ap (λ t. stands.front ++ ((stands.imports ++ own) ++ t)) none
        ∙ (import_lists stands.front stands.imports own
        ∙ (ap (λ t. (stands.front ++ (stands.imports ++ t)) ++ own) (sym none)
        ∙ ap (λ t. t ++ own) stands.are))

pub with_own_holds : (begun : Begun) (annotations : List Annotation) (end : ℕ)
    (before own : List Token) → BegunStands begun before → Early begun →
    Part write_own placed_own (Some annotations) own → Ends end own →
    ModuleHolds (within (record begun { annotations = Some annotations; end = end })
    (item_wanted false)) (before ++ own)
with_own_holds begun annotations end before own stands early part ends = record {
  before = before ++ own;
  own = [];
  stands = record {
    front = stands.front;
    imports = stands.imports;
    owns = own;
    declarations = stands.declarations;
    version = stands.version;
    imports_stand = stands.imports_stand;
    owns_stand = part;
    declarations_stand = stands.declarations_stand;
    ends = whole_ends all before own end are ends;
    are = are;
  };
  early = tt;
  holds = refl;
  are = append-nil (before ++ own);
}
  where
    all : List Token
    all = stands.front ++ (stands.imports ++ (own ++ stands.declarations))

    none : stands.owns ++ stands.declarations ≡ []
    none = early_tail begun before stands early

    no_declarations : stands.declarations ≡ []
    no_declarations = nothing_written stands.declarations (ap (write_each write_declaration)
        (sym early.declarations) ∙ stands.declarations_stand.writes)

    are : all ≡ before ++ own
    are = ap (λ t. stands.front ++ (stands.imports ++ (own ++ t))) no_declarations
        ∙ (own_lists stands.front stands.imports own
        ∙ (ap (λ t. (stands.front ++ (stands.imports ++ t)) ++ own) (sym none)
        ∙ ap (λ t. t ++ own) stands.are))

pub with_declaration_holds : (begun : Begun) (one : Declaration) (end : ℕ)
    (before own : List Token) → BegunStands begun before →
    Part write_declaration placed_declaration one own → Ends end own →
    ModuleHolds (with_declaration begun one end) (before ++ own)
with_declaration_holds begun one end before own stands part ends = record {
  before = before ++ own;
  own = [];
  stands = record {
    front = stands.front;
    imports = stands.imports;
    owns = stands.owns;
    declarations = stands.declarations ++ own;
    version = stands.version;
    imports_stand = stands.imports_stand;
    owns_stand = stands.owns_stand;
    declarations_stand = one_more_each write_declaration placed_declaration begun.declarations one
        stands.declarations own stands.declarations_stand part;
    ends = whole_ends all before own end are ends;
    are = are;
  };
  early = tt;
  holds = refl;
  are = append-nil (before ++ own);
}
  where
    all : List Token
    all = stands.front ++ (stands.imports ++ (stands.owns ++ (stands.declarations ++ own)))

    are : all ≡ before ++ own
    are = declaration_lists stands.front stands.imports stands.owns stands.declarations own
        ∙ ap (λ t. t ++ own) stands.are

-- the same, with the token that ends the item behind the rest of it
pub declares : (begun : Begun) (one : Declaration) (before own : List Token) (token : Token) →
    BegunStands begun before →
    Part write_declaration placed_declaration one (own ++ token ∷ []) →
    ModuleHolds (with_declaration begun one token.end) ((before ++ own) ++ token ∷ [])
declares begun one before own token stands part =
    subst (λ t. ModuleHolds (with_declaration begun one token.end) t)
    (sym (append_assoc before own (token ∷ []))) (with_declaration_holds begun one token.end before
    (own ++ token ∷ []) stands part (ends_with own token))

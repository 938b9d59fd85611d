-- The machine of modules leaves out the forms that are left out, and nothing else.
use Rattle.std.proofs.Common.{◌≡◌, ◌∙◌, inl, inr, sym, ap, subst, refl, arith, ℕ, ◌≤◌, Bool, List}
use Rattle.std.proofs.Common.{[], ◌∷◌, ◌++◌, Some, None, codes, length, length-append}
use Rattle.std.proofs.lemmas.Bool.{false≢true}
use Rattle.std.proofs.lemmas.List.{append_assoc, append-nil}
use Rattle.mdl_lexer.specs.declared.token.Kind.{Kind}
use Rattle.mdl_lexer.specs.declared.token.Kind.TheVariants as kind
use Rattle.mdl_lexer.specs.declared.token.Token.{Token}
use Rattle.mdl_lexer.specs.Kinds.{mark_word, name_word}
use Rattle.mdl_syntax.specs.declared.names.Span.{Span}
use Rattle.mdl_syntax.specs.declared.names.Ident.{Ident}
use Rattle.mdl_syntax.specs.declared.expressions.Lit.TheVariants as lit
use Rattle.mdl_syntax.specs.declared.imports.Lead.TheVariants as lead
use Rattle.mdl_syntax.specs.declared.imports.ModuleRef.{ModuleRef}
use Rattle.expression_grammar.specs.Languages.{left_out_text}
use Rattle.expression_grammar.specs.Readings.{kinds}
use Rattle.expression_grammar.specs.inside.Sorts.{IsOf}
use Rattle.expression_grammar.specs.inside.Sound.{place}
use Rattle.expression_grammar.specs.inside.Machine.{Sort, sort_of, sort_step, from_to, is_left_out}
use Rattle.expression_grammar.specs.inside.Machine.{left_out, identifier, other_literal, equals}
use Rattle.expression_grammar.specs.inside.Machine.{using_word, wanted, Step, ident_at}
use Rattle.module_grammar.specs.inside.ModuleStates.{State, Outcome, on, leaves_out, mdl_wanted}
use Rattle.module_grammar.specs.inside.ModuleStates.{within, importing, using, used_wanted, unnamed}
use Rattle.module_grammar.specs.inside.ModuleMachine.{module_step, module_sort_step}
use Rattle.module_grammar.specs.inside.ModuleStates.{exported_read}
use Rattle.module_grammar.specs.inside.ModuleLeads.{ModuleLeads}
use Rattle.module_grammar.specs.inside.ModuleHolds.{ModuleHolds, Then, At, Nothing, Parted, PartsStand}
use Rattle.module_grammar.specs.inside.ModuleHolds.{one_part, next_part, UsingBegun, UsedBegun}
use Rattle.module_grammar.specs.inside.ModuleForms.{LeftOutBy, by_word, by_string, by_re_export}
use Rattle.module_grammar.specs.inside.ModuleForms.{by_alias}
use Rattle.expression_grammar.proofs.TakenLaws.{leaves}
use Rattle.expression_grammar.proofs.SortLaws.{is_of_sort}
use Rattle.expression_grammar.proofs.LeftOutLaws.{step_leaves}
use Rattle.module_grammar.proofs.ModuleLeftOutSteps.{LeavesBy, leaves_word, leaves_imported}
use Rattle.module_grammar.proofs.ModuleLeftOutSteps.{leaves_used, leaves_wanted, leaves_alias}
use Rattle.module_grammar.proofs.ModuleLeftOutSteps.{leaves_export, IsTold, mode_kept}
use Rattle.module_grammar.proofs.ModuleLeftOutPositions.{sort_told}
use Rattle.module_grammar.proofs.ModuleLastWords.{LastStep, leads_last, module_start_holds}
use Rattle.module_grammar.proofs.ModuleHeadings.{an_import, a_using, an_export, AfterImport}
use Rattle.module_grammar.proofs.ModuleHeadings.{AfterUsing, AfterExport, heading_leads}

-- The last tokens of a state.

then_nothing : (One : List Token → Type 0) (tokens : List Token) → Then One Nothing tokens →
    One tokens
then_nothing One tokens both =
    subst One (sym (append-nil both.front) ∙ (ap (λ l. both.front ++ l) (sym both.other)
    ∙ both.are)) both.one

-- all tokens end with one of this word
record EndsWith (word : Kind) (tokens : List Token) : Type 0 where
  pub front : List Token
  pub token : Token
  pub is : token.kind ≡ word
  pub are : tokens ≡ front ++ token ∷ []

at_end : (word : Kind) (at : ℕ) (before own tokens : List Token) → At word at own →
    before ++ own ≡ tokens → EndsWith word tokens
at_end word at before own tokens one are = record {
  front = before;
  token = one.token;
  is = one.is;
  are = sym are ∙ ap (λ l. before ++ l) (sym one.are);
}

used_end : (at : ℕ) (name : ModuleRef) (before own tokens : List Token) → UsedBegun at name own →
    before ++ own ≡ tokens → EndsWith (name_word (codes "import")) tokens
used_end at name before own tokens one are = record {
  front = before ++ one.front;
  token = one.last;
  is = one.is;
  are = sym are ∙ (ap (λ l. before ++ l) (sym one.are)
      ∙ sym (append_assoc before one.front (one.last ∷ [])));
}

parts_some : (parts : List Ident) (tokens : List Token) → PartsStand parts tokens →
    1 ≤ length parts
parts_some parts tokens (one_part text word is) = omega arith
parts_some parts tokens (next_part others own text colon word stand mark is) =
    omega (arith, length-append others (ident_at text (place word) ∷ []))

-- one part of a name is one token
one_word : (parts : List Ident) (tokens : List Token) → PartsStand parts tokens →
    length parts ≡ 1 →
    (word : Token) × (text : List ℕ) × (tokens ≡ word ∷ []) × (word.kind ≡ kind.Word text)
one_word parts tokens (one_part text word is) one = (word, text, refl, is)
one_word parts tokens (next_part others own text colon word stand mark is) one =
    absurd (omega (
      arith,
      one,
      parts_some others own stand,
      length-append others (ident_at text (place word) ∷ []),
    ))

nothing_written : (tokens : List Token) → [] ≡ kinds tokens → tokens ≡ []
nothing_written [] is = refl
nothing_written (token ∷ tokens) is = absurd (omega (arith, ap length is))

-- `using` and a name of one part, or what holds of these tokens
record EndsNamed (tokens : List Token) : Type 0 where
  pub front : List Token
  pub token : Token
  pub name : Token
  pub text : List ℕ
  pub is : token.kind ≡ name_word (codes "using")
  pub named : name.kind ≡ kind.Word text
  pub are : tokens ≡ front ++ token ∷ name ∷ []

parted_is : (from : ℕ) (part : Ident) (end : ℕ) (tokens : List Token) →
    Parted lead.Bare from (part ∷ []) end tokens →
    (word : Token) × (text : List ℕ) × (tokens ≡ word ∷ []) × (word.kind ≡ kind.Word text)
parted_is from part end tokens parts =
    let (word, text, is, named) = one_word (part ∷ []) parts.own parts.stand refl in (
      word,
      text,
      sym parts.are ∙ (ap (λ l. l ++ parts.own) (nothing_written parts.leads parts.leading) ∙ is),
      named,
    )

named_end : (at from : ℕ) (part : Ident) (end : ℕ) (before own tokens : List Token) →
    Then (UsingBegun at) (Parted lead.Bare from (part ∷ []) end) own → before ++ own ≡ tokens →
    EndsNamed tokens
named_end at from part end before own tokens both are =
    let (word, text, is, named) = parted_is from part end both.back both.other in record {
      front = before;
      token = both.one.token;
      name = word;
      text = text;
      is = both.one.is;
      named = named;
      are = sym are ∙ ap (λ l. before ++ l) (sym both.are ∙ (ap (λ l. l ++ both.back)
          (sym both.one.are) ∙ ap (λ l. both.one.token ∷ l) is));
    }

-- What is left out is of a form.

by_import : (before : List Token) (token : Token) (text : List ℕ) →
    EndsWith (name_word (codes "import")) before → token.kind ≡ kind.Str text →
    LeftOutBy before token (codes "string-name")
by_import before token text ends is =
    by_string ends.front ends.token text ends.are (inl (record { is = ends.is })) is

by_using : (before : List Token) (token : Token) (text : List ℕ) →
    EndsWith (name_word (codes "using")) before → token.kind ≡ kind.Str text →
    LeftOutBy before token (codes "string-name")
by_using before token text ends is =
    by_string ends.front ends.token text ends.are (inr (record { is = ends.is })) is

formed : (before : List Token) (token : Token) (state : State) (sort : Sort) (text : List ℕ) →
    ModuleHolds state before → IsOf sort token.kind → LeavesBy state sort text →
    LeftOutBy before token text
formed before token state sort text holds of (leaves_word _ own) = by_word own of
formed before token state sort text holds of (leaves_imported begun at own) =
    by_import before token own
    (at_end (name_word (codes "import")) at holds.before holds.own before
    (then_nothing (At (name_word (codes "import")) at) holds.own
    (then_nothing (Then (At (name_word (codes "import")) at) Nothing) holds.own holds.holds))
    holds.are) of
formed before token state sort text holds of (leaves_used begun at own) =
    by_using before token own
    (at_end (name_word (codes "using")) at holds.before holds.own before
    (then_nothing (At (name_word (codes "using")) at) holds.own holds.holds) holds.are) of
formed before token state sort text holds of (leaves_wanted begun at name own) =
    by_import before token own
    (used_end at name holds.before holds.own before holds.holds holds.are) of
formed before token state sort text holds of (leaves_alias begun at from part end) =
    let ends = named_end at from part end holds.before holds.own before holds.holds holds.are in
    by_alias ends.front ends.token ends.name ends.text ends.are (record { is = ends.is })
    ends.named (record { is = of })
formed before token state sort text holds of (leaves_export begun at) =
    let ends = at_end (name_word (codes "export")) at holds.before holds.own before holds.holds
    holds.are in
    by_re_export ends.front ends.token ends.are (record { is = ends.is }) (record { is = of })

pub left_out_so : (strict : Bool) (limit : ℕ) (before : List Token) (token : Token) (state : State)
    (text : List ℕ) → ModuleLeads strict limit 0 mdl_wanted before state →
    module_step limit (length before) state token ≡ leaves_out None text →
    LeftOutBy before token text
left_out_so strict limit before token state text leads is =
    formed before token state (sort_of token.kind) text
    (module_start_holds strict limit before state leads) (is_of_sort token.kind)
    (subst (IsTold (LeavesBy state (sort_of token.kind))) is
    (sort_told limit (length before) state (sort_of token.kind) (from_to token.at token.end)))

-- A step leaves nothing out at an earlier token.

-- What is of a form is left out.

abbrev text_of : List ℕ → Step → List ℕ
text_of other (is_left_out text) = text
text_of other _ = other

word_sort : (sort : Sort) (own : Span) (text : List ℕ) →
    sort_step 0 wanted [] sort own ≡ is_left_out text → sort ≡ left_out text
word_sort (left_out other) own text is = ap (λ made. left_out (text_of other made)) is
word_sort sort own text is =
    absurd (false≢true (sym (mode_kept 0 wanted [] sort own) ∙ ap leaves is))

word_leaves : (most number : ℕ) (state : State) (token : Token) (text : List ℕ) →
    left_out_text token.kind ≡ Some text →
    module_step most number state token ≡ leaves_out None text
word_leaves most number state token text is =
    ap (λ sort. module_sort_step most number state sort (from_to token.at token.end))
    (word_sort (sort_of token.kind) (from_to token.at token.end) text
    (step_leaves 0 wanted [] token text is))

-- behind these words a token of this sort is left out
abbrev Leaves : State → Sort → List ℕ → Type 0
Leaves state sort text =
    (most number : ℕ) (own : Span) →
    module_sort_step most number state sort own ≡ leaves_out None text

import_leaves : (state : State) (text : List ℕ) → AfterImport state →
    Leaves state (other_literal (lit.Str text)) (codes "string-name")
import_leaves (within begun (importing at [] unnamed)) text after = λ most number own. refl
import_leaves (within begun (used_wanted at name)) text after = λ most number own. refl
import_leaves state text after = absurd after

using_leaves : (state : State) (text : List ℕ) → AfterUsing state →
    Leaves state (other_literal (lit.Str text)) (codes "string-name")
using_leaves (within begun (using at unnamed)) text after = λ most number own. refl
using_leaves state text after = absurd after

export_leaves : (state : State) → AfterExport state → Leaves state using_word (codes "re-export")
export_leaves (within begun (exported_read at)) after = λ most number own. refl
export_leaves state after = absurd after

abbrev LeavesAlias : Outcome → Type 0
LeavesAlias (on state) = Leaves state equals (codes "alias")
LeavesAlias _ = Unit {0}

named_leaves : (limit number : ℕ) (before : State) (text : List ℕ) (own : Span) →
    AfterUsing before → LeavesAlias (module_sort_step limit number before (identifier text) own)
named_leaves limit number (within begun (using at unnamed)) text own after =
    λ most number own. refl
named_leaves limit number state text own after = absurd after

alias_leaves : (limit number : ℕ) (before state : State) (name : Token) (text : List ℕ) →
    AfterUsing before → name.kind ≡ kind.Word text →
    module_step limit number before name ≡ on state → Leaves state equals (codes "alias")
alias_leaves limit number before state name text after named is =
    subst LeavesAlias is
    (subst (λ word. LeavesAlias (module_sort_step limit number before (sort_of word)
    (from_to name.at name.end))) (sym named)
    (named_leaves limit number before text (from_to name.at name.end) after))

token_leaves : (most number : ℕ) (state : State) (token : Token) (word : Kind) (text : List ℕ) →
    token.kind ≡ word → Leaves state (sort_of word) text →
    module_step most number state token ≡ leaves_out None text
token_leaves most number state token word text is law =
    ap (λ word. module_sort_step most number state (sort_of word) (from_to token.at token.end)) is
    ∙ law most number (from_to token.at token.end)

leads_to_end : (strict : Bool) (limit : ℕ) (before front : List Token) (word : Token)
    (state : State) → before ≡ front ++ word ∷ [] →
    ModuleLeads strict limit 0 mdl_wanted before state →
    LastStep strict limit 0 mdl_wanted front word state
leads_to_end strict limit before front word state are leads =
    leads_last strict limit 0 mdl_wanted state front word
    (subst (λ l. ModuleLeads strict limit 0 mdl_wanted l state) are leads)

-- whatever its number
pub left_out_leaves : (strict : Bool) (limit most number : ℕ) (before : List Token) (token : Token)
    (state : State) (text : List ℕ) → ModuleLeads strict limit 0 mdl_wanted before state →
    LeftOutBy before token text →
    module_step most number state token ≡ leaves_out None text
left_out_leaves strict limit most number before token state text leads (by_word own is) =
    word_leaves most number state token own is
left_out_leaves strict limit most number before token state text leads
    (by_string front word own are (inl imports) is) =
    let last = leads_to_end strict limit before front word state are leads in
    token_leaves most number state token (kind.Str own) (codes "string-name") is
    (import_leaves state own
    (heading_leads an_import limit last.at last.before state word imports last.steps))
left_out_leaves strict limit most number before token state text leads
    (by_string front word own are (inr uses) is) =
    let last = leads_to_end strict limit before front word state are leads in
    token_leaves most number state token (kind.Str own) (codes "string-name") is
    (using_leaves state own
    (heading_leads a_using limit last.at last.before state word uses last.steps))
left_out_leaves strict limit most number before token state text leads
    (by_re_export front word are exports uses) =
    let last = leads_to_end strict limit before front word state are leads in
    token_leaves most number state token (name_word (codes "using")) (codes "re-export")
    uses.is
    (export_leaves state
    (heading_leads an_export limit last.at last.before state word exports last.steps))
left_out_leaves strict limit most number before token state text leads
    (by_alias front word name own are uses named equal) =
    let last = leads_to_end strict limit before (front ++ word ∷ []) name state
    (are ∙ sym (append_assoc front (word ∷ []) (name ∷ []))) leads in
    let earlier = leads_last strict limit 0 mdl_wanted last.before front word last.leads in
    token_leaves most number state token (mark_word (codes "=")) (codes "alias") equal.is
    (alias_leaves limit last.at last.before state name own
    (heading_leads a_using limit earlier.at earlier.before last.before word uses earlier.steps)
    named last.steps)

pub left_out_takes : (strict : Bool) (limit most : ℕ) (before : List Token) (token : Token)
    (state : State) (text : List ℕ) → ModuleLeads strict limit 0 mdl_wanted before state →
    LeftOutBy before token text →
    module_step most (length before) state token ≡ leaves_out None text
left_out_takes strict limit most before token state text leads form =
    left_out_leaves strict limit most (length before) before token state text leads form

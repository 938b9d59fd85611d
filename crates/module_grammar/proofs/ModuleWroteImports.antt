-- Names of modules and imports are written part by part.
use Rattle.std.proofs.Common.{◌≡◌, ◌∙◌, sym, ap, subst, refl, arith, ℕ, zero, suc, ◌+◌, List, []}
use Rattle.std.proofs.Common.{◌∷◌, ◌++◌, length, drop, codes, Option, Some, None}
use Rattle.std.proofs.lemmas.List.{append_assoc, append-nil}
use Rattle.std.specs.List.{AllByRecursion}
use Rattle.mdl_lexer.specs.Kinds.{mark_word, name_word}
use Rattle.mdl_lexer.specs.declared.token.Kind.{Kind}
use Rattle.mdl_lexer.specs.declared.token.Token.{Token}
use Rattle.mdl_syntax.specs.declared.names.Span.{Span}
use Rattle.mdl_syntax.specs.declared.names.Ident.{Ident}
use Rattle.mdl_syntax.specs.declared.imports.Lead.{Lead}
use Rattle.mdl_syntax.specs.declared.imports.Lead.TheVariants as lead
use Rattle.mdl_syntax.specs.declared.imports.ModuleRef.{ModuleRef}
use Rattle.mdl_syntax.specs.declared.imports.Qualified.{Qualified}
use Rattle.mdl_syntax.specs.declared.imports.Import.{Import}
use Rattle.mdl_syntax.specs.declared.imports.Import.TheVariants as import_form
use Rattle.mdl_syntax.specs.Words.{ident_word, parts_words}
use Rattle.mdl_syntax.specs.Placed.{last_end, place_of, behind, placed_ident, placed_parts}
use Rattle.mdl_syntax.specs.WrittenModules.{write_several, up_words, lead_words, module_words}
use Rattle.mdl_syntax.specs.WrittenModules.{qualified_words, used_words, write_import}
use Rattle.mdl_syntax.specs.PlacedModules.{placed_each, placed_module_name, placed_qualified}
use Rattle.mdl_syntax.specs.PlacedModules.{placed_used, placed_import}
use Rattle.mdl_syntax.specs.LevelledModules.{IsLead, IsModuleName, IsImport}
use Rattle.expression_grammar.specs.inside.Machine.{from_to, ident_at}
use Rattle.module_grammar.specs.inside.ModuleStates.{module_name}
use Rattle.expression_grammar.specs.Readings.{kinds}
use Rattle.expression_grammar.specs.inside.Sound.{place}
use Rattle.module_grammar.specs.inside.WroteModules.{UpWrote, one_up, more_up, LeadWrote, bare_lead}
use Rattle.module_grammar.specs.inside.WroteModules.{absolute_lead, here_lead, up_lead, NamingWrote}
use Rattle.module_grammar.specs.inside.WroteModules.{first_named, longer_name, QualifiedWrote}
use Rattle.module_grammar.specs.inside.WroteModules.{all_names, one_name, IdentWrote, an_ident}
use Rattle.module_grammar.specs.inside.WroteModules.{UsedWrote, all_used, some_used, ImportWrote}
use Rattle.module_grammar.specs.inside.WroteModules.{import_tokens, using_tokens}
use Rattle.expression_grammar.proofs.CutLaws.{NoTokens, no_tokens, none, First, first, cut_first, Around}
use Rattle.expression_grammar.proofs.CutLaws.{around, cut_at, Halves, halves, cut, Last, last, cut_last}
use Rattle.expression_grammar.proofs.CutLaws.{head_is, tail_is}
use Rattle.expression_grammar.proofs.KindLaws.{front_of, behind_front, last_end_append, not_empty_append}
use Rattle.expression_grammar.proofs.KindLaws.{place_append}
use Rattle.expression_grammar.proofs.NameWroteLaws.{tail_words, parts_are}
use Rattle.module_grammar.proofs.ModuleWroteLists.{several_wrote, still_some}
use Rattle.module_grammar.proofs.ModuleWroteParts.{first_at, EndsAt, ends_behind, begins}

-- Leads.

-- one step up
data Up (words : List Kind) : List Token → Type 0 where
  step_up : (dot other colon : Token) (tokens : List Token) → dot.kind ≡ mark_word (codes ".") →
      other.kind ≡ mark_word (codes ".") → colon.kind ≡ mark_word (codes "::") → words ≡ kinds
      tokens → Up words (dot ∷ other ∷ colon ∷ tokens)

cut_up : (words : List Kind) (tokens : List Token) →
    mark_word (codes ".") ∷ mark_word (codes ".") ∷ mark_word (codes "::") ∷ words ≡ kinds tokens →
    Up words tokens
cut_up words (dot ∷ other ∷ colon ∷ tokens) is =
    step_up dot other colon tokens (head_is is) (head_is (tail_is is)) (head_is (tail_is (tail_is
    is))) (tail_is (tail_is (tail_is is)))
cut_up words _ is = absurd (omega (arith, ap length is))

up_on : (steps base all at : ℕ) (before tokens : List Token) → all ≡ steps + base → UpWrote base at
    before → up_words steps ≡ kinds tokens → UpWrote all at (before ++ tokens)
up_on zero base all at before tokens all_is wrote is = by tokens (none is)
  where
    by : (tokens : List Token) → NoTokens tokens → UpWrote all at (before ++ tokens)
    by tokens no_tokens =
        subst (λ steps. UpWrote steps at (before ++ [])) (omega (arith, all_is))
        (subst (UpWrote base at) (sym (append-nil before)) wrote)
up_on (suc steps) base all at before tokens all_is wrote is =
    by (λ longer rest. up_on steps (suc base) all at longer rest (omega (arith, all_is))) tokens
    (cut_up (up_words steps) tokens is)
  where
    On : Type 0
    On = (longer rest : List Token) → UpWrote (suc base) at longer → up_words steps ≡ kinds rest →
        UpWrote all at (longer ++ rest)

    by : On → (tokens : List Token) → Up (up_words steps) tokens → UpWrote all at (before ++ tokens)
    by on tokens (step_up dot other colon rest d o c rest_is) =
        subst (UpWrote all at) (append_assoc before (dot ∷ other ∷ colon ∷ []) rest) (on (before ++
        dot ∷ other ∷ colon ∷ []) rest (more_up base at before dot other colon wrote (record {
          is =
              d;
        }) (record { is = o }) (record { is = c })) rest_is)

lead_wrote : (behind : ℕ) (led : Lead) (tokens : List Token) → IsLead led → lead_words led ≡ kinds
    tokens → LeadWrote behind led (first_at behind tokens) tokens
lead_wrote behind lead.Bare tokens fits is = by tokens (none is)
  where
    by : (tokens : List Token) → NoTokens tokens → LeadWrote behind lead.Bare (first_at behind
        tokens) tokens
    by tokens no_tokens = bare_lead
lead_wrote behind lead.Absolute tokens fits is = by tokens (cut_first is)
  where
    inner : (colon : Token) (rest : List Token) → colon.kind ≡ mark_word (codes "::") → NoTokens
        rest → LeadWrote behind lead.Absolute colon.at (colon ∷ rest)
    inner colon rest c no_tokens = absolute_lead colon (record { is = c })

    by : (tokens : List Token) → First (mark_word (codes "::")) [] tokens →
        LeadWrote behind lead.Absolute (first_at behind tokens) tokens
    by tokens (first colon rest c rest_is) = inner colon rest c (none rest_is)
lead_wrote behind lead.Here (dot ∷ colon ∷ []) fits is =
    here_lead dot colon (record { is = head_is is }) (record { is = head_is (tail_is is) })
lead_wrote behind lead.Here _ fits is = absurd (omega (arith, ap length is))
lead_wrote behind (lead.Up zero) tokens fits is = absurd (omega (arith, fits))
lead_wrote behind (lead.Up (suc steps)) tokens fits is = by tokens (cut_up (up_words steps) tokens
    is)
  where
    by : (tokens : List Token) → Up (up_words steps) tokens →
        LeadWrote behind (lead.Up (suc steps)) (first_at behind tokens) tokens
    by tokens (step_up dot other colon rest d o c rest_is) =
        up_lead (suc steps) dot.at (dot ∷ other ∷ colon ∷ rest) (up_on steps 1 (suc steps) dot.at
        (dot ∷ other ∷ colon ∷ []) rest (omega arith) (one_up dot other colon (record { is = d })
        (record { is = o }) (record { is = c })) rest_is)

-- Names.

parts_on : (parts : List Ident) (led : Lead) (at : ℕ) (done : List Ident) (end : ℕ) (before tokens
    rest : List Token) → NamingWrote led at done end before → tail_words parts ≡ kinds tokens →
    NamingWrote led at (done ++ placed_parts parts (drop 1 (tokens ++ rest))) (last_end end tokens)
    (before ++ tokens)
parts_on [] led at done end before tokens rest wrote is = by tokens (none is)
  where
    by : (tokens : List Token) → NoTokens tokens →
        NamingWrote led at (done ++ []) (last_end end tokens) (before ++ tokens)
    by tokens no_tokens =
        subst (λ parts. NamingWrote led at parts end (before ++ [])) (sym (append-nil done))
        (subst (NamingWrote led at done end) (sym (append-nil before)) wrote)
parts_on (part ∷ parts) led at done end before tokens rest wrote is =
    by (λ longer more end front tokens. parts_on parts led at longer end front tokens rest) tokens
    (cut_first is)
  where
    On : Type 0
    On = (longer more : List Ident) (end : ℕ) (front tokens : List Token) → NamingWrote led at
        longer end front → tail_words parts ≡ kinds tokens → NamingWrote led at (longer ++
        placed_parts parts (drop 1 (tokens ++ rest))) (last_end end tokens) (front ++ tokens)

    next : On → (colon : Token) (tokens : List Token) → colon.kind ≡ mark_word (codes "::") →
        First (ident_word part) (tail_words parts) tokens → NamingWrote led at (done ++ placed_parts
        (part ∷ parts) (tokens ++ rest)) (last_end colon.end tokens) (before ++ colon ∷ tokens)
    next on colon tokens c (first word others w others_are) =
        subst (λ parts. NamingWrote led at parts (last_end word.end others) (before ++ colon ∷ word
        ∷ others)) (append_assoc done (ident_at part.text (place word) ∷ []) (placed_parts parts
        (drop 1 (others ++ rest)))) (subst (NamingWrote led at ((done ++ ident_at part.text (place
        word) ∷ []) ++ placed_parts parts (drop 1 (others ++ rest))) (last_end word.end others))
        (append_assoc before (colon ∷ word ∷ []) others) (on (done ++ ident_at part.text (place
        word) ∷ []) [] word.end (before ++ colon ∷ word ∷ []) others (longer_name led at done end
        before colon word part.text wrote (record { is = c }) w) others_are))

    by : On → (tokens : List Token) → First (mark_word (codes "::")) (ident_word part ∷ tail_words
        parts) tokens → NamingWrote led at (done ++ placed_parts (part ∷ parts) (drop 1 (tokens ++
        rest))) (last_end end tokens) (before ++ tokens)
    by on tokens (first colon others c others_are) = next on colon others c (cut_first others_are)

place_end : (tokens : List Token) (close : ℕ) → (tokens ≡ [] → ⊥) → EndsAt tokens close →
    (place_of tokens).end ≡ close
place_end [] close some ends = absurd (some refl)
place_end (token ∷ tokens) close some ends = ends 0

pub naming_wrote : (led : Lead) (parts : List Ident) (tokens rest : List Token) → IsLead led →
    (parts ≡ [] → ⊥) → lead_words led ++ parts_words parts ≡ kinds tokens → NamingWrote led
    (place_of tokens).at (placed_parts parts (behind (lead_words led) 0 (tokens ++ rest))) (place_of
    tokens).end tokens
naming_wrote led [] tokens rest fits some is = absurd (some refl)
naming_wrote led (part ∷ parts) tokens rest fits some is = by tokens (cut is)
  where
    inner : (leads others : List Token) → lead_words led ≡ kinds leads →
        First (ident_word part) (tail_words parts) others →
        NamingWrote led (place_of (leads ++ others)).at
        (placed_parts (part ∷ parts) (behind (lead_words led) 0 ((leads ++ others) ++ rest)))
        (place_of (leads ++ others)).end (leads ++ others)
    inner leads others l (first word more w more_are) =
        subst (λ at. NamingWrote led at (placed_parts (part ∷ parts) (behind (lead_words led) 0 (own
        ++ rest))) (place_of own).end own) (sym (begins leads (word ∷ more))) (subst (λ list.
        NamingWrote led (first_at word.at leads) (placed_parts (part ∷ parts) list) (place_of
        own).end own) (sym behind_lead) (subst (λ end. NamingWrote led (first_at word.at leads) all
        end own) (sym ends) (subst (NamingWrote led (first_at word.at leads) all (last_end word.end
        more)) (append_assoc leads (word ∷ []) more) (parts_on parts led (first_at word.at leads)
        (ident_at part.text (place word) ∷ []) word.end (leads ++ word ∷ []) more rest (first_named
        led (first_at word.at leads) leads word part.text (lead_wrote word.at led leads fits l) w)
        more_are))))
      where
        own : List Token
        own = leads ++ word ∷ more

        all : List Ident
        all = ident_at part.text (place word) ∷ placed_parts parts (drop 1 (more ++ rest))

        behind_lead : behind (lead_words led) 0 (own ++ rest) ≡ word ∷ (more ++ rest)
        behind_lead =
            ap (behind (lead_words led) 0) (append_assoc leads (word ∷ more) rest)
            ∙ behind_front (lead_words led) 0 leads (word ∷ (more ++ rest)) l

        ends : (place_of own).end ≡ last_end word.end more
        ends =
            place_end own (last_end word.end more) (not_empty_append leads word more)
            (ends_behind leads (word ∷ more) (last_end word.end more) (λ end. refl))

    by : (tokens : List Token) → Halves (lead_words led) (parts_words (part ∷ parts)) tokens →
        NamingWrote led (place_of tokens).at (placed_parts (part ∷ parts) (behind (lead_words led) 0
        (tokens ++ rest))) (place_of tokens).end tokens
    by tokens (halves leads others l o) = inner leads others l (cut_first (sym (parts_are part
        parts) ∙ o))

-- a placed name among the first tokens, as it is made
pub module_is : (name : ModuleRef) (tokens rest : List Token) → module_words name ≡ kinds tokens →
    placed_module_name name (tokens ++ rest) ≡ module_name name.lead (place_of tokens).at
    (placed_parts name.parts (behind (lead_words name.lead) 0 (tokens ++ rest))) (place_of
    tokens).end
module_is name tokens rest is = λ i. record {
  lead = name.lead;
  parts = placed_parts name.parts (behind (lead_words name.lead) 0 (tokens ++ rest));
  span = place_of (front_of (module_words name) tokens rest is i);
}

-- Imports.

-- where tokens of a name are, and what is behind them
whole_place : (tokens : List Token) (colon word : Token) → (tokens ≡ [] → ⊥) →
    place_of (tokens ++ colon ∷ word ∷ []) ≡ from_to (place_of tokens).at word.end
whole_place tokens colon word some = place_append tokens colon (word ∷ []) some

naming_some : (led : Lead) (at : ℕ) (parts : List Ident) (end : ℕ) (tokens : List Token) →
    NamingWrote led at parts end tokens → tokens ≡ [] → ⊥
naming_some led at parts end tokens (first_named own from leads word text l w) = not_empty_append
    leads word []
naming_some led at parts end tokens (longer_name own from others close front colon word text n c w)
    =
    not_empty_append front colon (word ∷ [])

qualified_by : (name : ModuleRef) (one : Option Ident) (span : Span) (tokens : List Token) →
    IsModuleName name → qualified_words (record { «module» = name; name = one; span = span }) ≡
    kinds tokens → QualifiedWrote (placed_qualified (record {
      «module» = name;
      name = one;
      span =
          span;
    }) tokens) tokens
qualified_by name None span tokens fits is = by tokens (cut_at is)
  where
    inner : (own : List Token) (colon : Token) (more : List Token) → module_words name ≡ kinds own →
        colon.kind ≡ mark_word (codes "::") → First (mark_word (codes "*")) [] more →
        QualifiedWrote (placed_qualified (record { «module» = name; name = None; span = span })
        (own ++ colon ∷ more)) (own ++ colon ∷ more)
    inner own colon more m c (first star rest s rest_is) = last_one rest (none rest_is)
      where
        parts : List Ident
        parts = placed_parts name.parts (behind (lead_words name.lead) 0 (own ++ colon ∷ star ∷ []))

        wrote : NamingWrote name.lead (place_of own).at parts (place_of own).end own
        wrote = naming_wrote name.lead name.parts own (colon ∷ star ∷ []) fits.0 fits.1 m

        last_one : (rest : List Token) → NoTokens rest →
            QualifiedWrote (placed_qualified (record { «module» = name; name = None; span = span })
            (own ++ colon ∷ star ∷ rest)) (own ++ colon ∷ star ∷ rest)
        last_one rest no_tokens =
            subst (λ (item : Qualified). QualifiedWrote item (own ++ colon ∷ star ∷ [])) (sym (λ i.
            record {
              «module» = module_is name own (colon ∷ star ∷ []) m i;
              name = None;
              span = whole_place own colon star
                  (naming_some name.lead (place_of own).at parts (place_of own).end own wrote) i;
            })) (all_names name.lead (place_of own).at parts (place_of own).end own colon star wrote
            (record { is = c }) (record { is = s }))

    by : (tokens : List Token) → Around (module_words name) (mark_word (codes "::")) (mark_word
        (codes "*") ∷ []) tokens → QualifiedWrote (placed_qualified (record {
          «module» = name;
          name
              = None;
          span = span;
        }) tokens) tokens
    by tokens (around own colon more m c is) = inner own colon more m c (cut_first is)
qualified_by name (Some one) span tokens fits is = by tokens (cut_at is)
  where
    inner : (own : List Token) (colon : Token) (more : List Token) → module_words name ≡ kinds own →
        colon.kind ≡ mark_word (codes "::") → First (ident_word one) [] more →
        QualifiedWrote (placed_qualified (record { «module» = name; name = Some one; span = span })
        (own ++ colon ∷ more)) (own ++ colon ∷ more)
    inner own colon more m c (first word rest w rest_is) = last_one rest (none rest_is)
      where
        parts : List Ident
        parts = placed_parts name.parts (behind (lead_words name.lead) 0 (own ++ colon ∷ word ∷ []))

        wrote : NamingWrote name.lead (place_of own).at parts (place_of own).end own
        wrote = naming_wrote name.lead name.parts own (colon ∷ word ∷ []) fits.0 fits.1 m

        last_one : (rest : List Token) → NoTokens rest →
            QualifiedWrote (placed_qualified (record {
              «module» = name;
              name = Some one;
              span = span;
            }) (own ++ colon ∷ word ∷ rest)) (own ++ colon ∷ word ∷ rest)
        last_one rest no_tokens =
            subst (λ (item : Qualified). QualifiedWrote item (own ++ colon ∷ word ∷ [])) (sym (λ i.
            record {
              «module» = module_is name own (colon ∷ word ∷ []) m i;
              name = Some (placed_ident one (behind_front (module_words name) 1 own (colon ∷ word ∷
                  []) m i));
              span = whole_place own colon word
                  (naming_some name.lead (place_of own).at parts (place_of own).end own wrote) i;
            })) (one_name name.lead (place_of own).at parts (place_of own).end own colon word
            one.text wrote
            (record { is = c }) w)

    by : (tokens : List Token) → Around (module_words name) (mark_word (codes "::")) (ident_word one
        ∷ []) tokens → QualifiedWrote (placed_qualified (record {
          «module» = name;
          name = Some one;
          span = span;
        }) tokens) tokens
    by tokens (around own colon more m c is) = inner own colon more m c (cut_first is)

pub qualified_wrote : (item : Qualified) (tokens : List Token) → IsModuleName item.module →
    qualified_words item ≡ kinds tokens → QualifiedWrote (placed_qualified item tokens) tokens
qualified_wrote item tokens fits is = qualified_by item.module item.name item.span tokens fits is

ident_wrote : (name : Ident) (tokens : List Token) → Unit {0} → ident_word name ∷ [] ≡ kinds tokens
    → IdentWrote (placed_ident name tokens) tokens
ident_wrote name (word ∷ []) fits is = an_ident word name.text (head_is is)
ident_wrote name _ fits is = absurd (omega (arith, ap length is))

all_units : (names : List Ident) → AllByRecursion (λ name. Unit {0}) names
all_units [] = tt
all_units (name ∷ names) = (tt, all_units names)

-- names that are used, if they are told
abbrev HasNames : Option (List Ident) → Type 0
HasNames None = Unit {0}
HasNames (Some names) = names ≡ [] → ⊥

used_wrote : (names : Option (List Ident)) (tokens rest : List Token) → HasNames names →
    used_words names ≡ kinds tokens → UsedWrote (placed_used names (tokens ++ rest)) tokens
used_wrote None (star ∷ []) rest fits is = all_used star (record { is = head_is is })
used_wrote None _ rest fits is = absurd (omega (arith, ap length is))
used_wrote (Some names) tokens rest fits is =
    some_used (placed_each (λ name. ident_word name ∷ []) placed_ident 1 names (tokens ++ rest))
    tokens (still_some (λ name. ident_word name ∷ []) placed_ident 1 names (tokens ++ rest) fits)
    (several_wrote IdentWrote (λ name. ident_word name ∷ []) placed_ident (λ name. Unit {0})
    ident_wrote names tokens rest (all_units names) is)

items_wrote : (items : List Qualified) (span : Span) (tokens : List Token) → (items ≡ [] → ⊥) →
    AllByRecursion (λ (item : Qualified). IsModuleName item.module) items →
    write_import (import_form.Import items span) ≡ kinds tokens →
    ImportWrote (placed_import (import_form.Import items span) tokens) tokens
items_wrote items span tokens some fits is = by tokens (cut_first is)
  where
    inner : (word : Token) (more : List Token) → word.kind ≡ name_word (codes "import") →
        Last (write_several qualified_words items) (mark_word (codes ";")) more →
        ImportWrote (placed_import (import_form.Import items span) (word ∷ more)) (word ∷ more)
    inner word more w (last own semicolon o s) =
        subst (λ end. ImportWrote (import_form.Import all (from_to word.at end)) (word ∷ (own ++
        semicolon ∷ []))) (sym (last_end_append word.end own (semicolon ∷ []))) (import_tokens word
        semicolon all own (record { is = w }) (still_some qualified_words placed_qualified 1 items
        (own ++ semicolon ∷ []) some) (several_wrote QualifiedWrote qualified_words placed_qualified
        (λ (item : Qualified). IsModuleName item.module) qualified_wrote items own (semicolon ∷ [])
        fits o) (record { is = s }))
      where
        all : List Qualified
        all = placed_each qualified_words placed_qualified 1 items (own ++ semicolon ∷ [])

    by : (tokens : List Token) → First (name_word (codes "import"))
        (write_several qualified_words items ++ mark_word (codes ";") ∷ []) tokens →
        ImportWrote (placed_import (import_form.Import items span) tokens) tokens
    by tokens (first word more w is) = inner word more w (cut_last is)

using_wrote : (name : ModuleRef) (names : Option (List Ident)) (span : Span) (tokens : List Token) →
    IsModuleName name → HasNames names → write_import (import_form.Using name names span) ≡ kinds
    tokens → ImportWrote (placed_import (import_form.Using name names span) tokens) tokens
using_wrote name names span tokens fits some is = by tokens (cut_first is)
  where
    third : (word : Token) (own : List Token) (import_token : Token) (more : List Token) →
        word.kind ≡ name_word (codes "using") → module_words name ≡ kinds own → import_token.kind ≡
        name_word (codes "import") → Last (used_words names) (mark_word (codes ";")) more →
        ImportWrote (placed_import (import_form.Using name names span) (word ∷ (own ++ import_token
        ∷ more))) (word ∷ (own ++ import_token ∷ more))
    third word own import_token more w m t (last used semicolon u s) =
        subst (λ (made : Import). ImportWrote made (word ∷ (own ++ import_token ∷ rest))) (sym (λ i.
        import_form.Using (module_is name own (import_token ∷ rest) m i) (placed_used names (at_used
        i)) (from_to word.at (ends i)))) (using_tokens word import_token semicolon name.lead
        (place_of own).at parts (place_of own).end (placed_used names rest) own used (record {
          is =
              w;
        })
        (naming_wrote name.lead name.parts own (import_token ∷ rest) fits.0 fits.1 m) (record {
          is =
              t;
        }) (used_wrote names used (semicolon ∷ []) some u) (record { is = s }))
      where
        rest : List Token
        rest = used ++ semicolon ∷ []

        parts : List Ident
        parts = placed_parts name.parts (behind (lead_words name.lead) 0 (own ++ import_token ∷
            rest))

        one_more : length (module_words name) + 2 ≡ suc (length (module_words name) + 1)
        one_more = omega (arith)

        at_used : behind (module_words name) 2 (word ∷ (own ++ import_token ∷ rest)) ≡ rest
        at_used =
            ap (λ n. drop n (word ∷ (own ++ import_token ∷ rest))) one_more
            ∙ behind_front (module_words name) 1 own (import_token ∷ rest) m

        ends : last_end word.end (own ++ import_token ∷ rest) ≡ semicolon.end
        ends =
            last_end_append word.end own (import_token ∷ rest)
            ∙ last_end_append import_token.end used (semicolon ∷ [])

    second : (word : Token) (more : List Token) → word.kind ≡ name_word (codes "using") →
        Around (module_words name) (name_word (codes "import")) (used_words names ++ mark_word
        (codes ";") ∷ []) more → ImportWrote (placed_import (import_form.Using name names span)
        (word ∷ more)) (word ∷ more)
    second word more w (around own import_token rest m t is) = third word own import_token rest w m
        t (cut_last is)

    by : (tokens : List Token) → First (name_word (codes "using")) (module_words name
        ++ name_word (codes "import") ∷ (used_words names ++ mark_word (codes ";") ∷ [])) tokens →
        ImportWrote (placed_import (import_form.Using name names span) tokens) tokens
    by tokens (first word more w is) = second word more w (cut_at is)

pub import_wrote : (one : Import) (tokens : List Token) → IsImport one → write_import one ≡ kinds
    tokens → ImportWrote (placed_import one tokens) tokens
import_wrote (import_form.Import items span) tokens fits is = items_wrote items span tokens fits.0
    fits.1 is
import_wrote (import_form.Using name None span) tokens fits is = using_wrote name None span tokens
    fits tt is
import_wrote (import_form.Using name (Some names) span) tokens fits is =
    using_wrote name (Some names) span tokens fits.0 fits.1 is

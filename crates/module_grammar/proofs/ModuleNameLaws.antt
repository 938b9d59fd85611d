-- Names of modules, as they are read, stand for their tokens.
use Rattle.std.proofs.Common.{◌≡◌, ◌≤◌, ◌∙◌, ◌+◌, sym, ap, subst, refl, arith, ℕ, zero, suc}
use Rattle.std.proofs.Common.{List, [], ◌∷◌, ◌++◌, length, codes, Option, Some, None}
use Rattle.std.proofs.lemmas.List.{append_assoc, length-append}
use Rattle.std.proofs.lemmas.List.{take-append-le, drop-append-le, length-drop}
use Rattle.mdl_lexer.specs.Kinds.{mark_word}
use Rattle.mdl_lexer.specs.declared.token.Kind.{Kind}
use Rattle.mdl_lexer.specs.declared.token.Kind.TheVariants as kind
use Rattle.mdl_lexer.specs.declared.token.Token.{Token}
use Rattle.mdl_syntax.specs.declared.names.Ident.{Ident}
use Rattle.mdl_syntax.specs.declared.imports.Lead.{Lead}
use Rattle.mdl_syntax.specs.declared.imports.Lead.TheVariants as lead
use Rattle.mdl_syntax.specs.declared.imports.ModuleRef.{ModuleRef}
use Rattle.mdl_syntax.specs.declared.imports.Qualified.{Qualified}
use Rattle.mdl_syntax.specs.Words.{ident_word, parts_words}
use Rattle.mdl_syntax.specs.Placed.{last_end, place_of, behind, placed_parts}
use Rattle.mdl_syntax.specs.WrittenModules.{up_words, lead_words, module_words, qualified_words}
use Rattle.mdl_syntax.specs.PlacedModules.{placed_module_name, placed_qualified, placed_last}
use Rattle.expression_grammar.specs.Readings.{kinds}
use Rattle.expression_grammar.specs.inside.Machine.{Sort, identifier, dot, double_colon, ident_at, from_to}
use Rattle.expression_grammar.specs.inside.Sorts.{IsOf}
use Rattle.expression_grammar.specs.inside.Sound.{place}
use Rattle.module_grammar.specs.inside.ModuleParts.{Part, First}
use Rattle.module_grammar.specs.inside.ModuleStates.{Naming, unnamed, one_dot, two_dots, up_steps}
use Rattle.module_grammar.specs.inside.ModuleStates.{one_dot_behind, led, parted, open_ended}
use Rattle.module_grammar.specs.inside.ModuleStates.{naming_step, module_name, split_last, part_end}
use Rattle.module_grammar.specs.inside.ModuleStates.{qualified_from}
use Rattle.module_grammar.specs.inside.ModuleHolds.{Words, NamingStands, Parted, PartsStand, one_part}
use Rattle.module_grammar.specs.inside.ModuleHolds.{next_part, Behind, ModuleNamed, one_dot_words}
use Rattle.module_grammar.specs.inside.ModuleHolds.{two_dot_words}
use Rattle.expression_grammar.proofs.KindLaws.{kinds_append, length_kinds, all_of, behind_front}
use Rattle.expression_grammar.proofs.KindLaws.{last_end_append, parts_front, not_empty, not_empty_append}
use Rattle.expression_grammar.proofs.FormLaws.{longer_parts_words, longer_parts_placed}
use Rattle.module_grammar.proofs.ModuleListLaws.{first_append, long_place, whole_place}
use Rattle.module_grammar.proofs.ModuleListLaws.{at_nothing}

-- Names so far.

up_more : (steps : ℕ) → up_words steps ++ (mark_word (codes ".") ∷ mark_word (codes ".")
    ∷ mark_word (codes "::") ∷ []) ≡ up_words (suc steps)
up_more zero = refl
up_more (suc steps) =
    ap (λ words. mark_word (codes ".") ∷ mark_word (codes ".") ∷ mark_word (codes "::") ∷ words)
    (up_more steps)

words_on : (words : List Kind) (at : ℕ) (tokens : List Token) (word : Kind) (token : Token) →
    Words words at tokens → token.kind ≡ word → Words (words ++ word ∷ []) at (tokens ++ token ∷ [])
words_on words at tokens word token held is = record {
  are = (λ i. held.are i ++ (sym is i ∷ [])) ∙ sym (kinds_append tokens (token ∷ []));
  first = first_append at tokens (token ∷ []) held.first;
}

parted_first : (lead : Lead) (at : ℕ) (text : List ℕ) (leads : List Token) (token : Token) →
    lead_words lead ≡ kinds leads → First at (leads ++ token ∷ []) → token.kind ≡ kind.Word text →
    Parted lead at (ident_at text (place token) ∷ []) token.end (leads ++ token ∷ [])
parted_first lead at text leads token leading first is = record {
  leads = leads;
  own = token ∷ [];
  leading = leading;
  stand = one_part text token is;
  first = first;
  ends = refl;
  are = refl;
}

in_four : (a b : List Token) (c d : Token) →
    a ++ (b ++ c ∷ d ∷ []) ≡ ((a ++ b) ++ c ∷ []) ++ d ∷ []
in_four a b c d = simp (append_assoc)

parted_next : (lead : Lead) (at : ℕ) (parts : List Ident) (end : ℕ) (text : List ℕ)
    (tokens : List Token) (token : Token) →
    Behind (Parted lead at parts end) (mark_word (codes "::")) tokens →
    token.kind ≡ kind.Word text →
    Parted lead at (parts ++ ident_at text (place token) ∷ []) token.end (tokens ++ token ∷ [])
parted_next lead at parts end text tokens token held is =
    let one = held.one in
    record {
      leads = one.leads;
      own = one.own ++ held.last ∷ token ∷ [];
      leading = one.leading;
      stand = next_part parts one.own text held.last token one.stand held.is is;
      first = subst (First at) (append_assoc one.leads one.own (held.last ∷ token ∷ []))
          (first_append at (one.leads ++ one.own) (held.last ∷ token ∷ []) one.first);
      ends = last_end_append 0 one.own (held.last ∷ token ∷ []);
      are = in_four one.leads one.own held.last token
          ∙ (ap (λ l. (l ++ held.last ∷ []) ++ token ∷ []) one.are
          ∙ ap (λ l. l ++ token ∷ []) held.are);
    }

abbrev pub NamingNext : Option Naming → List Token → Type 0
NamingNext None tokens = Unit {0}
NamingNext (Some naming) tokens = NamingStands naming tokens

pub naming_keeps : (naming : Naming) (sort : Sort) (token : Token) (tokens : List Token) →
    IsOf sort token.kind → NamingStands naming tokens →
    NamingNext (naming_step naming sort (place token)) (tokens ++ token ∷ [])
naming_keeps unnamed dot token tokens is none =
    at_nothing (Words one_dot_words token.at) tokens (token ∷ []) none
    (record { are = λ i. sym is i ∷ []; first = refl })
naming_keeps unnamed double_colon token tokens is none =
    at_nothing (Words (lead_words lead.Absolute) token.at) tokens (token ∷ []) none
    (record { are = λ i. sym is i ∷ []; first = refl })
naming_keeps unnamed (identifier text) token tokens is none =
    at_nothing (Parted lead.Bare token.at (ident_at text (place token) ∷ []) token.end) tokens
    (token ∷ []) none (parted_first lead.Bare token.at text [] token refl refl is)
naming_keeps (one_dot at) dot token tokens is held =
    words_on one_dot_words at tokens (mark_word (codes ".")) token held is
naming_keeps (one_dot at) double_colon token tokens is held =
    words_on one_dot_words at tokens (mark_word (codes "::")) token held is
naming_keeps (two_dots steps at) double_colon token tokens is held =
    subst (λ words. Words words at (tokens ++ token ∷ []))
    (append_assoc (up_words steps) two_dot_words (mark_word (codes "::") ∷ []) ∙ up_more steps)
    (words_on (up_words steps ++ two_dot_words) at tokens (mark_word (codes "::")) token held is)
naming_keeps (up_steps steps at) dot token tokens is held =
    words_on (up_words steps) at tokens (mark_word (codes ".")) token held is
naming_keeps (up_steps steps at) (identifier text) token tokens is held =
    parted_first (lead.Up steps) at text tokens token held.are (first_append at tokens (token ∷ [])
    held.first) is
naming_keeps (one_dot_behind steps at) dot token tokens is held =
    subst (λ words. Words words at (tokens ++ token ∷ []))
    (append_assoc (up_words steps) one_dot_words (mark_word (codes ".") ∷ []))
    (words_on (up_words steps ++ one_dot_words) at tokens (mark_word (codes ".")) token held is)
naming_keeps (led lead at) (identifier text) token tokens is held =
    parted_first lead at text tokens token held.are (first_append at tokens (token ∷ [])
    held.first) is
naming_keeps (parted lead at parts end) double_colon token tokens is held = record {
  front = tokens;
  last = token;
  one = held;
  is = is;
  are = refl;
}
naming_keeps (open_ended lead at parts end) (identifier text) token tokens is held =
    parted_next lead at parts end text tokens token held is
naming_keeps naming _ token tokens is held = tt

-- Whole names.

pub record PartsHold (parts : List Ident) (tokens : List Token) : Type 0 where
  pub writes : parts_words parts ≡ kinds tokens
  pub places : placed_parts parts tokens ≡ parts
  pub some : parts ≡ [] → ⊥
  pub any : tokens ≡ [] → ⊥

pub parts_hold : (parts : List Ident) (tokens : List Token) → PartsStand parts tokens →
    PartsHold parts tokens
parts_hold _ _ (one_part text word is) = record {
  writes = λ i. sym is i ∷ [];
  places = refl;
  some = not_empty (ident_at text (place word)) [];
  any = not_empty word [];
}
parts_hold _ _ (next_part parts tokens text colon word stands divides is) =
    by parts (parts_hold parts tokens stands)
  where
    by : (parts : List Ident) → PartsHold parts tokens →
        PartsHold (parts ++ ident_at text (place word) ∷ []) (tokens ++ colon ∷ word ∷ [])
    by [] held = absurd (held.some refl)
    by (part ∷ parts) held =
        let last = ident_at text (place word) in record {
          writes = longer_parts_words part parts last
              ∙ ((λ i. held.writes i ++ sym divides i ∷ sym is i ∷ [])
              ∙ sym (kinds_append tokens (colon ∷ word ∷ [])));
          places = longer_parts_placed part parts last tokens colon word
              (length_kinds (parts_words (part ∷ parts)) tokens held.writes)
              ∙ (λ i. held.places i ++ last ∷ []);
          some = not_empty_append (part ∷ parts) last [];
          any = not_empty_append tokens colon (word ∷ []);
        }

module_front : (name : ModuleRef) (tokens rest : List Token) →
    length (module_words name) ≤ length tokens →
    placed_module_name name (tokens ++ rest) ≡ placed_module_name name tokens
module_front name tokens rest fits =
    let l = lead_words name.lead in
    let both : length l + length (parts_words name.parts) ≤ length tokens =
    omega (arith, fits, length-append l (parts_words name.parts)) in λ i. record {
      lead = name.lead;
      parts = (ap (placed_parts name.parts) (drop-append-le (length l + 0) tokens rest
          (omega (arith, both))) ∙ parts_front name.parts (behind l 0 tokens) rest
          (omega (arith, both, length-drop (length l + 0) tokens))) i;
      span = place_of (take-append-le (length (module_words name)) tokens rest fits i);
    }

pub module_kept : (name : ModuleRef) (tokens rest : List Token) → ModuleNamed name tokens →
    placed_module_name name (tokens ++ rest) ≡ name
module_kept name tokens rest named =
    module_front name tokens rest
    (omega (arith, length_kinds (module_words name) tokens named.writes)) ∙ named.places

whole_name : (lead : Lead) (at : ℕ) (parts : List Ident) (leads own : List Token) →
    lead_words lead ≡ kinds leads → PartsHold parts own → First at (leads ++ own) →
    ModuleNamed (module_name lead at parts (last_end 0 own)) (leads ++ own)
whole_name lead at parts leads own leading held first =
    let writes : lead_words lead ++ parts_words parts ≡ kinds (leads ++ own) =
    (λ i. leading i ++ held.writes i) ∙ sym (kinds_append leads own) in record {
      writes = writes;
      places = λ i. record {
        lead = lead;
        parts = (ap (placed_parts parts) (behind_front (lead_words lead) 0 leads own leading)
            ∙ held.places) i;
        span = (ap place_of (all_of (lead_words lead ++ parts_words parts) (leads ++ own) writes)
            ∙ long_place at leads own first held.any) i;
      };
    }

pub module_named : (lead : Lead) (at : ℕ) (parts : List Ident) (end : ℕ) (tokens : List Token) →
    Parted lead at parts end tokens → ModuleNamed (module_name lead at parts end) tokens
module_named lead at parts end tokens held =
    subst (λ e. ModuleNamed (module_name lead at parts e) tokens) held.ends
    (subst (λ t. ModuleNamed (module_name lead at parts (last_end 0 held.own)) t) held.are
    (whole_name lead at parts held.leads held.own held.leading (parts_hold parts held.own held.stand)
    held.first))

pub parted_begins : (lead : Lead) (at : ℕ) (parts : List Ident) (end : ℕ) (tokens : List Token) →
    Parted lead at parts end tokens → First at tokens
parted_begins lead at parts end tokens held = subst (First at) held.are held.first

-- A name of a module and one of its names, or all of them.

abbrev pub QualifiedStands : Qualified → List Token → Type 0
QualifiedStands item tokens = Part qualified_words placed_qualified item tokens

abbrev ending : Option Ident → List Kind
ending None = mark_word (codes "*") ∷ []
ending (Some name) = ident_word name ∷ []

qualified_stands : (name : ModuleRef) (at : ℕ) (tokens : List Token) (colon last : Token)
    (one : Option Ident) → ModuleNamed name tokens → First at tokens →
    colon.kind ≡ mark_word (codes "::") → ending one ≡ last.kind ∷ [] →
    placed_last one (last ∷ []) ≡ one →
    qualified_words (record { «module» = name; name = one; span = from_to at last.end })
    ≡ module_words name ++ (mark_word (codes "::") ∷ ending one) →
    QualifiedStands (record { «module» = name; name = one; span = from_to at last.end })
    (tokens ++ colon ∷ last ∷ [])
qualified_stands name at tokens colon last one named first divides ends placed words = record {
  writes = words ∙ ((λ i. named.writes i ++ (sym divides i ∷ ends i))
      ∙ sym (kinds_append tokens (colon ∷ last ∷ [])));
  places = λ i. record {
    «module» = module_kept name tokens (colon ∷ last ∷ []) named i;
    name = (ap (placed_last one) (behind_front (module_words name) 1 tokens (colon ∷ last ∷ [])
        named.writes) ∙ placed) i;
    span = whole_place at (tokens ++ colon ∷ []) last (tokens ++ colon ∷ last ∷ [])
        (first_append at tokens (colon ∷ []) first)
        (append_assoc tokens (colon ∷ []) (last ∷ [])) i;
  };
}

pub all_stand : (name : ModuleRef) (at : ℕ) (tokens : List Token) (colon star : Token) →
    ModuleNamed name tokens → First at tokens → colon.kind ≡ mark_word (codes "::") →
    star.kind ≡ mark_word (codes "*") →
    QualifiedStands (record { «module» = name; name = None; span = from_to at star.end })
    (tokens ++ colon ∷ star ∷ [])
all_stand name at tokens colon star named first divides is =
    qualified_stands name at tokens colon star None named first divides (λ i. sym is i ∷ []) refl
    refl

one_stands : (name : ModuleRef) (at : ℕ) (tokens : List Token) (colon word : Token)
    (text : List ℕ) → ModuleNamed name tokens → First at tokens →
    colon.kind ≡ mark_word (codes "::") → word.kind ≡ kind.Word text →
    QualifiedStands (record {
      «module» = name;
      name = Some (ident_at text (place word));
      span = from_to at word.end;
    }) (tokens ++ colon ∷ word ∷ [])
one_stands name at tokens colon word text named first divides is =
    qualified_stands name at tokens colon word (Some (ident_at text (place word))) named first
    divides (λ i. sym is i ∷ []) refl refl

split_behind : (first : Ident) (more : List Ident) (last : Ident) →
    split_last first (more ++ last ∷ []) ≡ (first ∷ more, last)
split_behind first [] last = refl
split_behind first (next ∷ more) last =
    ap (λ (split : List Ident × Ident). (first ∷ split.0, split.1)) (split_behind next more last)

part_end_last : (parts : List Ident) (last : Ident) (end : ℕ) →
    part_end (parts ++ last ∷ []) end ≡ last.span.end
part_end_last [] last end = refl
part_end_last (part ∷ parts) last end = part_end_last parts last part.span.end

part_end_is : (parts : List Ident) (tokens : List Token) (end : ℕ) → PartsStand parts tokens →
    part_end parts end ≡ last_end 0 tokens
part_end_is _ _ end (one_part text word is) = refl
part_end_is _ _ end (next_part parts tokens text colon word stands divides is) =
    part_end_last parts (ident_at text (place word)) end
    ∙ sym (last_end_append 0 tokens (colon ∷ word ∷ []))

abbrev pub QualifiedNext : Option Qualified → List Token → Type 0
QualifiedNext None tokens = Unit {0}
QualifiedNext (Some item) tokens = QualifiedStands item tokens

qualified_hold : (lead : Lead) (at : ℕ) (parts : List Ident) (leads own : List Token) →
    lead_words lead ≡ kinds leads → First at (leads ++ own) → PartsStand parts own →
    QualifiedNext (qualified_from lead at parts (last_end 0 own)) (leads ++ own)
qualified_hold lead at _ leads _ leading first (one_part text word is) = tt
qualified_hold lead at _ leads _ leading first (next_part parts tokens text colon word stands divides is) =
    by parts stands
  where
    last : Ident
    last = ident_at text (place word)

    begins : First at (leads ++ tokens)
    begins = at_front at leads tokens (colon ∷ word ∷ []) first
        ((parts_hold parts tokens stands).any)
      where
        at_front : (at : ℕ) (leads tokens rest : List Token) → First at (leads ++ (tokens ++ rest)) →
            (tokens ≡ [] → ⊥) → First at (leads ++ tokens)
        at_front at [] [] rest first some = absurd (some refl)
        at_front at [] (token ∷ tokens) rest first some = first
        at_front at (one ∷ leads) tokens rest first some = first

    whole : (front : List Ident) → PartsStand front tokens →
        QualifiedStands (record {
          «module» = module_name lead at front (part_end front at);
          name = Some last;
          span = from_to at (last_end 0 (tokens ++ colon ∷ word ∷ []));
        }) (leads ++ (tokens ++ colon ∷ word ∷ []))
    whole front stands =
        subst (λ e. QualifiedStands (record {
          «module» = module_name lead at front (part_end front at);
          name = Some last;
          span = from_to at e;
        }) (leads ++ (tokens ++ colon ∷ word ∷ []))) (sym (last_end_append 0 tokens (colon ∷ word
        ∷ [])))
        (subst (λ e. QualifiedStands (record {
          «module» = module_name lead at front e;
          name = Some last;
          span = from_to at word.end;
        }) (leads ++ (tokens ++ colon ∷ word ∷ []))) (sym (part_end_is front tokens at stands))
        (subst (λ t. QualifiedStands (record {
          «module» = module_name lead at front (last_end 0 tokens);
          name = Some last;
          span = from_to at word.end;
        }) t) (append_assoc leads tokens (colon ∷ word ∷ []))
        (one_stands (module_name lead at front (last_end 0 tokens)) at (leads ++ tokens) colon word
        text (whole_name lead at front leads tokens leading (parts_hold front tokens stands) begins)
        begins divides is)))

    by : (front : List Ident) → PartsStand front tokens →
        QualifiedNext (qualified_from lead at (front ++ last ∷ []) (last_end 0 (tokens ++ colon
        ∷ word ∷ []))) (leads ++ (tokens ++ colon ∷ word ∷ []))
    by [] stands = absurd ((parts_hold [] tokens stands).some refl)
    by (part ∷ []) stands = whole (part ∷ []) stands
    by (part ∷ next ∷ more) stands =
        subst (λ (split : List Ident × Ident). QualifiedStands (record {
          «module» = module_name lead at (part ∷ split.0) (part_end (part ∷ split.0) at);
          name = Some split.1;
          span = from_to at (last_end 0 (tokens ++ colon ∷ word ∷ []));
        }) (leads ++ (tokens ++ colon ∷ word ∷ []))) (sym (split_behind next more last))
        (whole (part ∷ next ∷ more) stands)

pub qualified_keeps : (lead : Lead) (at : ℕ) (parts : List Ident) (end : ℕ) (tokens : List Token) →
    Parted lead at parts end tokens → QualifiedNext (qualified_from lead at parts end) tokens
qualified_keeps lead at parts end tokens held =
    subst (λ e. QualifiedNext (qualified_from lead at parts e) tokens) held.ends
    (subst (λ t. QualifiedNext (qualified_from lead at parts (last_end 0 held.own)) t) held.are
    (qualified_hold lead at parts held.leads held.own held.leading held.first held.stand))

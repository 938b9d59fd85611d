-- Terms of first texts: reading one from the front of words agrees with how it is written.
use Rattle.std.proofs.Common.{◌≡◌, ◌<◌, ℕ, zero, suc, Bool, true, false, List, [], ◌∷◌, ◌++◌}
use Rattle.std.proofs.Common.{Option, Some, None, IfSome, if◌then◌else◌, map, codes, ltb, refl, sym, ap}
use Rattle.std.proofs.Common.{subst, arith, rules, option_and_then}
use Rattle.std.specs.List.{list_all, AllByRecursion}
use Rattle.std.specs.Str.{bytes_eq}
use Rattle.std.specs.Cmp.Lexicographic.{bytes_decides}
use Rattle.std.proofs.lemmas.Bool.{and_parts, false≢true, eqb-true, ltb-true}
use Rattle.std.proofs.lemmas.List.{append_assoc}
use Rattle.type_rules.specs.declared.ty.Ty.{Ty}
use Rattle.type_rules.specs.declared.ty.Arg.{Arg}
use Rattle.type_rules.specs.declared.symbol.Symbol.{Symbol}
use Rattle.type_rules.specs.declared.symbol.Symbol.TheVariants as symbol
use Rattle.type_rules.specs.Types.{type_of, arguments_of}
use Rattle.type_rules.specs.Terms.{Term, Terms, apply, nil, cons, list_of, terms_from, term_type}
use Rattle.type_rules.specs.Terms.{kid_types, IsTyped, AreTyped}
use Rattle.type_rules.specs.TermLaws.{same_type-itself, same_type-only, terms_from-list_of}
use Rattle.type_rules.specs.Same.{same_type}
use Rattle.mdl_lexer.specs.declared.token.Kind.{Kind}
use Rattle.mdl_lexer.specs.declared.token.Kind.TheVariants as kind
use Rattle.mdl_cli.specs.Words.{name_word, mark_word}
use Rattle.mdl_cli.specs.FirstText.{forms, symbol_named, head_of, IsForm, IsFirst, AreFirst}
use Rattle.mdl_cli.specs.FirstText.{written, kid_words, behind_commas}
use Rattle.mdl_cli.specs.inside.Reading.{same_word, behind, word_forms, symbol_of_word}
use Rattle.mdl_cli.specs.inside.Reading.{symbol_in, Reader, others_in, kids_in, operands_in, under}
use Rattle.mdl_cli.specs.inside.Reading.{typed_in, term_in}

-- what was read, if anything was, passes
pub record IfRead {A : Type 0} (found : Option A) (P : A → Type 0) : Type 0 where
  pub is : IfSome found P

pub nothing : {A : Type 0} {P : A → Type 0} → IfRead None P
nothing = record { is = tt }

pub just : {A : Type 0} {P : A → Type 0} {x : A} → P x → IfRead (Some x) P
just h = record { is = h }

-- one thing behind another
pub and_then : {A B : Type 0} {P : A → Type 0} {Q : B → Type 0} {found : Option A} {next : A → Option B} →
    IfRead found P → ((x : A) → P x → IfRead (next x) Q) → IfRead (option_and_then next found) Q
and_then {found = None} h k = nothing
and_then {found = Some x} h k = k x h.is

-- one thing or another, by a test
pub by_test : {A : Type 0} {P : A → Type 0} {one other : Option A} (test : Bool) →
    (test ≡ true → IfRead one P) → (test ≡ false → IfRead other P) →
    IfRead (if test then one else other) P
by_test true h k = h refl
by_test false h k = k refl

same_word-only : (a b : Kind) → same_word a b ≡ true → a ≡ b
same_word-only (kind.Word a) (kind.Word b) h = ap kind.Word ((bytes_decides a b).0 h)
same_word-only (kind.Reserved a) (kind.Reserved b) h = ap kind.Reserved (eqb-true a b h)
same_word-only (kind.Mark a) (kind.Mark b) h = ap kind.Mark (eqb-true a b h)
same_word-only _ _ h = absurd (false≢true h)

-- the rest behind a word is read only where that word comes first
pub behind_sound : (wanted : Kind) (words : List Kind) →
    IfRead (behind wanted words) (λ rest. words ≡ wanted ∷ rest)
unfolding behind
behind_sound wanted [] = nothing
behind_sound wanted (word ∷ words) =
    by_test _ (λ same. just (rw (same_word-only wanted word same))) (λ _. nothing)

-- the number beside a name, or 0
abbrev rank_in : List (List ℕ × ℕ) → List ℕ → ℕ
rank_in [] name = 0
rank_in (row ∷ rows) name = if bytes_eq name row.0 then row.1 else rank_in rows name

abbrev ranks : List (List ℕ × ℕ)
ranks =
    (codes "color", 1) ∷ (codes "float3", 1) ∷ (codes "material_emission", 2) ∷ (codes "material_volume", 2)
    ∷ (codes "material_geometry", 2) ∷ (codes "material_surface", 3) ∷ (codes "material", 4) ∷ []

-- a rank of types by their names: what a symbol takes has lower ranks than what it makes
unfoldable pub rank : Ty → ℕ
rank ty = rank_in ranks ty.name

-- the arguments' types have ranks below the bound
abbrev are_below : ℕ → List Arg → Bool
are_below bound args = list_all (λ (arg : Arg). ltb (rank arg.ty) bound) args

-- a symbol's first word
abbrev head_word : Symbol → Kind
head_word (symbol.Real text double) = kind.Real text double
head_word s = name_word (head_of s)

-- what is true of a word and the symbol that it stands for
abbrev WordFits : Kind × Symbol → Type 0
WordFits row = (head_word row.1 ≡ row.0) × IsForm row.1

words_fit : AllByRecursion WordFits word_forms
unfolding word_forms symbol_named
words_fit = search rules

-- the symbol of the first row of a key
abbrev find_row : {K : Type 0} → (K → K → Bool) → List (K × Symbol) → K → Option Symbol
find_row same [] key = None
find_row same (row ∷ rows) key = if same row.0 key then Some row.1 else find_row same rows key

-- what is true of each row is true of the one that is found
found_fits : {K : Type 0} (same : K → K → Bool) → ((a b : K) → same a b ≡ true → a ≡ b) →
    (Fits : K × Symbol → Type 0) (rows : List (K × Symbol)) (key : K) → AllByRecursion Fits rows →
    IfRead (find_row same rows key) (λ s. Fits (key, s))
found_fits same only Fits [] key all = nothing
found_fits same only Fits (row ∷ rows) key all =
    by_test _ (λ is. just (subst (λ k. Fits (k, row.1)) (only row.0 key is) all.0))
    (λ _. found_fits same only Fits rows key all.1)

-- the symbol that is read is a form, and its first word comes first
symbol_sound : (words : List Kind) →
    IfRead (symbol_in words) (λ found. (words ≡ head_word found.0 ∷ found.1) × IsForm found.0)
unfolding symbol_in
symbol_sound [] = nothing
symbol_sound (word ∷ words) =
    and_then (of_word word) (λ s fits. just (ap (λ w. w ∷ words) (sym fits.0), fits.1))
  where
    of_word : (word : Kind) → IfRead (symbol_of_word word) (λ s. WordFits (word, s))
    of_word (kind.Real text true) = nothing
    of_word (kind.Real text false) = just (refl, refl)
    of_word word = found_fits same_word same_word-only WordFits word_forms word words_fit

-- a term of the type that was wanted, with its words in front
pub record ReadsTerm (ty : Ty) (words : List Kind) (found : Term × List Kind) : Type 0 where
  pub are : words ≡ written found.0 ++ found.1
  pub first : IsFirst found.0
  pub typed : term_type found.0 ≡ ty

abbrev pub ReadsSoundly : Reader → Type 0
ReadsSoundly read = (ty : Ty) (words : List Kind) → IfRead (read ty words) (ReadsTerm ty words)

-- kids of the types of the arguments, with their words in front
record ReadsKids (front : Terms → List Kind) (args : List Arg) (words : List Kind)
    (found : List Term × List Kind) : Type 0 where
  are : words ≡ front (terms_from found.0) ++ found.1
  first : AreFirst (terms_from found.0)
  types : kid_types (terms_from found.0) ≡ map (λ (arg : Arg). arg.ty) args

-- a kid and those behind commas
kids_join : (arg : Arg) (args : List Arg) (words : List Kind) (kid : Term × List Kind)
    (kids : List Term × List Kind) → ReadsTerm arg.ty words kid → ReadsKids behind_commas args kid.1 kids →
    ReadsKids kid_words (arg ∷ args) words (kid.0 ∷ kids.0, kids.1)
kids_join arg args words kid kids one rest =
    record {
      are = rw (one.are, rest.are, append_assoc (written kid.0) (behind_commas (terms_from kids.0)) kids.1);
      first = (one.first, rest.first);
      types = λ i. one.typed i ∷ rest.types i;
    }

others_sound : (read : Reader) → ReadsSoundly read → (args : List Arg) (words : List Kind) →
    IfRead (others_in read args words) (ReadsKids behind_commas args words)
unfolding others_in
others_sound read sound [] words = just (record { are = refl; first = tt; types = refl })
others_sound read sound (arg ∷ args) words =
    and_then (behind_sound _ words) (λ comma comma_is.
    and_then (sound arg.ty comma) (λ kid one.
    and_then (others_sound read sound args kid.1) (λ kids rest.
    let all = kids_join arg args comma kid kids one rest in
    just (record {
      are = rw comma_is (ap (λ w. mark_word (codes ",") ∷ w) all.are);
      first = all.first;
      types = all.types;
    }))))

kids_sound : (read : Reader) → ReadsSoundly read → (args : List Arg) (words : List Kind) →
    IfRead (kids_in read args words) (ReadsKids kid_words args words)
unfolding kids_in
kids_sound read sound [] words = just (record { are = refl; first = tt; types = refl })
kids_sound read sound (arg ∷ args) words =
    and_then (sound arg.ty words) (λ kid one.
    and_then (others_sound read sound args kid.1) (λ kids rest.
    just (kids_join arg args words kid kids one rest)))

-- the words of kids in parentheses
abbrev in_parentheses : Terms → List Kind
in_parentheses ts = mark_word (codes "(") ∷ (kid_words ts ++ mark_word (codes ")") ∷ [])

operands_sound : (read : Reader) → ReadsSoundly read → (args : List Arg) (words : List Kind) →
    IfRead (operands_in read args words) (ReadsKids in_parentheses args words)
unfolding operands_in
operands_sound read sound args words =
    and_then (behind_sound _ words) (λ left left_is.
    and_then (kids_sound read sound args left) (λ kids inner.
    and_then (behind_sound _ kids.1) (λ right right_is.
    let front = kid_words (terms_from kids.0) in
    just (record {
      are = rw (left_is, inner.are, right_is, append_assoc front (mark_word (codes ")") ∷ []) right);
      first = inner.first;
      types = inner.types;
    }))))

-- what is read under a form makes a term with it
under_sound : (read : Reader) → ReadsSoundly read → (s : Symbol) (words : List Kind) → IsForm s →
    IfRead (under read s words) (ReadsTerm (type_of s) (head_word s ∷ words))
unfolding under
under_sound read sound (symbol.Op name args result varying) words form =
    and_then (operands_sound read sound args words) (λ kids inner.
    just (record {
      are = ap (λ w. name_word name ∷ w) inner.are;
      first = (form, (inner.types, inner.first));
      typed = refl;
    }))
under_sound read sound s words form = just (record { are = refl; first = (form, (refl, tt)); typed = refl })

-- a reader of terms reads soundly where that of their kids does
typed_sound : (read : Reader) → ReadsSoundly read → ReadsSoundly (typed_in read)
unfolding typed_in
typed_sound read sound ty words =
    and_then (symbol_sound words) (λ head fits.
    by_test _
    (λ same.
    rw (fits.0, ← (same_type-only (type_of head.0) ty same)) (under_sound read sound head.0 head.1 fits.1))
    (λ _. nothing))

-- a term that is read is one of first texts, has the type that was wanted and its words in front
pub term_in_sound : (height : ℕ) → ReadsSoundly (term_in height)
unfolding term_in
term_in_sound zero ty words = nothing
term_in_sound (suc height) ty words = typed_sound (term_in height) (term_in_sound height) ty words

mutual
  -- a term of first texts is typed
  pub is_typed : (t : Term) → IsFirst t → IsTyped t
  is_typed (apply s ts) h = (h.1.0, are_typed ts h.1.1)

  are_typed : (ts : Terms) → AreFirst ts → AreTyped ts
  are_typed nil h = tt
  are_typed (cons t ts) h = (is_typed t h.0, are_typed ts h.1)

-- what is true of a name and the symbol that it stands for, which takes only types of lower ranks
abbrev NameFits : List ℕ × Symbol → Type 0
NameFits row =
    (symbol_of_word (name_word row.0) ≡ Some row.1)
    × (are_below (rank (type_of row.1)) (arguments_of row.1) ≡ true)

names_fit : AllByRecursion NameFits forms
unfolding word_forms rank
names_fit = search rules

-- a form is what its first word stands for, and takes only types of lower ranks than its own
form_fits : (s : Symbol) → IsForm s →
    (symbol_of_word (head_word s) ≡ Some s) × (are_below (rank (type_of s)) (arguments_of s) ≡ true)
unfolding symbol_named
form_fits (symbol.Real text double) form = (rw form refl, refl)
form_fits s form =
    subst (λ o. IfSome o (λ t. NameFits (head_of s, t))) form
    (found_fits (λ a b. bytes_eq b a) (λ a b same. sym ((bytes_decides b a).0 same)) NameFits forms (head_of
    s)
    names_fit).is

-- terms of first texts of ranks below the bound are read in front
abbrev pub ReadsBelow : ℕ → Reader → Type 0
ReadsBelow bound read =
    (ty : Ty) (t : Term) (rest : List Kind) → IsFirst t → term_type t ≡ ty → rank ty < bound →
    read ty (written t ++ rest) ≡ Some (t, rest)

-- kids of first texts, of the types of arguments whose ranks are below the bound
record KidsFit (bound : ℕ) (args : List Arg) (ts : Terms) : Type 0 where
  first : AreFirst ts
  types : kid_types ts ≡ map (λ (arg : Arg). arg.ty) args
  below : are_below bound args ≡ true

others_complete : (bound : ℕ) (read : Reader) → ReadsBelow bound read →
    (args : List Arg) (ts : Terms) (rest : List Kind) → KidsFit bound args ts →
    others_in read args (behind_commas ts ++ rest) ≡ Some (list_of ts, rest)
unfolding others_in behind
others_complete bound read reads [] nil rest fit = refl
others_complete bound read reads [] (cons t ts) rest fit = let e = fit.types in cc
others_complete bound read reads (arg ∷ args) nil rest fit = let e = fit.types in cc
others_complete bound read reads (arg ∷ args) (cons t ts) rest fit =
    let both = and_parts (ltb (rank arg.ty) bound) (are_below bound args) fit.below in
    let types = fit.types in
    let typed : term_type t ≡ arg.ty = cc in
    let others : kid_types ts ≡ map (λ (a : Arg). a.ty) args = cc in
    rw (
      append_assoc (written t) (behind_commas ts) rest,
      reads arg.ty t (behind_commas ts ++ rest) fit.first.0 typed (ltb-true (rank arg.ty) bound both.0),
      others_complete bound read reads args ts rest
          (record { first = fit.first.1; types = others; below = both.1 }),
    ) refl

kids_complete : (bound : ℕ) (read : Reader) → ReadsBelow bound read →
    (args : List Arg) (ts : Terms) (rest : List Kind) → KidsFit bound args ts →
    kids_in read args (kid_words ts ++ rest) ≡ Some (list_of ts, rest)
unfolding kids_in others_in behind
kids_complete bound read reads [] nil rest fit = refl
kids_complete bound read reads [] (cons t ts) rest fit = let e = fit.types in cc
kids_complete bound read reads (arg ∷ args) nil rest fit = let e = fit.types in cc
kids_complete bound read reads (arg ∷ args) (cons t ts) rest fit =
    others_complete bound read reads (arg ∷ args) (cons t ts) rest fit

operands_complete : (bound : ℕ) (read : Reader) → ReadsBelow bound read →
    (args : List Arg) (ts : Terms) (rest : List Kind) → KidsFit bound args ts →
    operands_in read args (in_parentheses ts ++ rest) ≡ Some (list_of ts, rest)
unfolding operands_in behind
operands_complete bound read reads args ts rest fit =
    let end = mark_word (codes ")") ∷ [] in
    rw (append_assoc (kid_words ts) end rest, kids_complete bound read reads args ts (end ++ rest) fit) refl

-- a reader of terms reads one rank more than that of their kids
typed_complete : (height : ℕ) (read : Reader) → ReadsBelow height read →
    ReadsBelow (suc height) (typed_in read)
unfolding typed_in symbol_in under
typed_complete height read reads ty (apply (symbol.Op name args result varying) ts) rest first typed less =
    let fits = form_fits (symbol.Op name args result varying) first.0 in
    let same : same_type result ty ≡ true =
    subst (λ wanted. same_type result wanted ≡ true) typed (same_type-itself result) in
    let lower : ReadsBelow (rank result) read =
    λ wanted t end form own below. reads wanted t end form own (omega (arith, ap rank typed)) in
    rw (
      fits.0,
      same,
      operands_complete (rank result) read lower args ts rest
          (record { first = first.1.1; types = first.1.0; below = fits.1 }),
      terms_from-list_of ts,
    ) refl
typed_complete height read reads ty (apply s nil) rest first typed less =
    let same : same_type (type_of s) ty ≡ true =
    subst (λ wanted. same_type (type_of s) wanted ≡ true) typed (same_type-itself (type_of s)) in
    rw ((form_fits s first.0).0, same) refl
typed_complete height read reads ty (apply s (cons t ts)) rest first typed less = let e = first.1.0 in cc

-- a term of first texts of a rank below the height is read where its words come first
pub term_in_complete : (height : ℕ) → ReadsBelow height (term_in height)
unfolding term_in
term_in_complete zero ty t rest first typed less = absurd (omega arith)
term_in_complete (suc height) ty t rest first typed less =
    typed_complete height (term_in height) (term_in_complete height) ty t rest first typed less

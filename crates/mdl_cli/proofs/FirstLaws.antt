-- First texts: reading one from the front of its words agrees with what a first text is.
use Rattle.std.proofs.Common.{◌≡◌, ℕ, ◌==◌, not, true, false, List, [], ◌∷◌, length, Some, None}
use Rattle.std.proofs.Common.{codes, refl, sym, ap, ◌∙◌, arith}
use Rattle.std.specs.List.{list_any}
use Rattle.std.specs.Str.{bytes_eq}
use Rattle.std.proofs.lemmas.Bool.{and_parts, not-true, true≢false, cond-true}
use Rattle.std.proofs.lemmas.Option.{some_pair_parts}
use Rattle.type_rules.specs.declared.ty.Ty.{Ty}
use Rattle.type_rules.specs.Types.{plain}
use Rattle.type_rules.specs.Terms.{Term}
use Rattle.mdl_lexer.specs.declared.token.Kind.{Kind}
use Rattle.mdl_lexer.specs.declared.token.Kind.TheVariants as kind
use Rattle.mdl_lexer.specs.declared.token.Token.{Token}
use Rattle.mdl_cli.specs.Names.{prelude_names}
use Rattle.mdl_cli.specs.Words.{kinds_of, name_word, mark_word}
use Rattle.mdl_cli.specs.FirstText.{AreFirstWords, versions}
use Rattle.mdl_cli.specs.inside.Reading.{behind, behind_version, name_in, head_in, most_height}
use Rattle.mdl_cli.specs.inside.Reading.{term_in, if_ended, first_in}
use Rattle.mdl_cli.proofs.TermReading.{IfRead, nothing, just, and_then, by_test, behind_sound}
use Rattle.mdl_cli.proofs.TermReading.{term_in_sound, term_in_complete, rank}

-- a known version comes first
record VersionFirst (words rest : List Kind) : Type 0 where
  version : List ℕ
  known : list_any (bytes_eq version) versions ≡ true
  are : words ≡ kind.Real version false ∷ rest

version_sound : (words : List Kind) → IfRead (behind_version words) (VersionFirst words)
unfolding behind_version
version_sound [] = nothing
version_sound (kind.Real text double ∷ words) =
    by_test _
    (λ passes.
    let both = and_parts (not double) (list_any (bytes_eq text) versions) passes in
    just (record { version = text; known = both.1; are = rw (not-true double both.0) refl }))
    (λ _. nothing)
version_sound (_ ∷ words) = nothing

name_sound : (words : List Kind) → IfRead (name_in words) (λ found. words ≡ kind.Word found.0 ∷ found.1)
unfolding name_in
name_sound [] = nothing
name_sound (kind.Word name ∷ words) = just refl
name_sound (_ ∷ words) = nothing

-- the words of a head, and those behind it
abbrev behind_head : List ℕ → List ℕ → List Kind → List Kind
behind_head version name rest =
    name_word (codes "mdl") ∷ kind.Real version false ∷ mark_word (codes ";")
    ∷ name_word (codes "export") ∷ name_word (codes "material") ∷ kind.Word name
    ∷ mark_word (codes "(") ∷ mark_word (codes ")") ∷ mark_word (codes "=") ∷ rest

-- a head with a known version comes first
record HeadFirst (words : List Kind) (found : List ℕ × List Kind) : Type 0 where
  version : List ℕ
  known : list_any (bytes_eq version) versions ≡ true
  are : words ≡ behind_head version found.0 found.1

head_sound : (words : List Kind) → IfRead (head_in words) (HeadFirst words)
unfolding head_in
head_sound words =
    and_then (behind_sound _ words) (λ mdl mdl_is.
    and_then (version_sound mdl) (λ version top.
    and_then (behind_sound _ version) (λ line line_is.
    and_then (behind_sound _ line) (λ export export_is.
    and_then (behind_sound _ export) (λ material material_is.
    and_then (name_sound material) (λ named named_is.
    and_then (behind_sound _ named.1) (λ opened opened_is.
    and_then (behind_sound _ opened) (λ closed closed_is.
    and_then (behind_sound _ closed) (λ equals equals_is.
    just (record {
      version = top.version;
      known = top.known;
      are = rw (mdl_is, top.are, line_is, export_is, material_is, named_is, opened_is, closed_is, equals_is);
    }))))))))))

-- the words end, and the name is new
ended : {P : List ℕ × Term → Type 0} (found : List ℕ × Term) (end : List Kind) →
    (end ≡ [] → list_any (bytes_eq found.0) prelude_names ≡ false → P found) → IfRead (if_ended found end) P
ended found [] h = by_test _ (λ _. nothing) (λ new. just (h refl new))
ended found (word ∷ words) h = nothing

first_sound : (words : List Kind) → IfRead (first_in words) (λ found. AreFirstWords words found.0 found.1)
unfolding first_in
first_sound words =
    and_then (head_sound words) (λ head top.
    and_then (term_in_sound most_height (plain (codes "material")) head.1) (λ body term.
    and_then (behind_sound _ body.1) (λ end mark.
    ended (head.0, body.0) end (λ none new.
    record {
      version = top.version;
      known_version = top.known;
      new_name = new;
      first = term.first;
      material = term.typed;
      are = rw (top.are, term.are, mark, none);
    }))))

pub first_in_sound : (words : List Kind) (name : List ℕ) (t : Term) → first_in words ≡ Some (name, t) →
    AreFirstWords words name t
first_in_sound words name t e = rw e at (first_sound words).is

pub first_in_complete : (words : List Kind) (name : List ℕ) (t : Term) → AreFirstWords words name t →
    first_in words ≡ Some (name, t)
unfolding first_in head_in behind behind_version name_in rank
first_in_complete words name t h =
    let end = mark_word (codes ";") ∷ [] in
    rw (
      h.are,
      h.known_version,
      term_in_complete most_height (plain (codes "material")) t end h.first h.material
          (omega arith),
      h.new_name,
    ) refl

-- words are a first text of one material at most
pub first_words_are_one : (words : List Kind) (a b : List ℕ) (t u : Term) → AreFirstWords words a t →
    AreFirstWords words b u → (a ≡ b) × (t ≡ u)
first_words_are_one words a b t u h k =
    some_pair_parts a b t u (sym (first_in_complete words a t h) ∙ first_in_complete words b u k)

-- words that go on behind a first text, or a name that the prelude has
pub goes_on : (found : List ℕ × Term) (rest : List Token) → (length rest == 0) ≡ false →
    if_ended found (kinds_of rest) ≡ None
goes_on found [] some = absurd (true≢false some)
goes_on found (token ∷ rest) some = refl

pub has_old_name : (found : List ℕ × Term) (rest : List Token) →
    list_any (bytes_eq found.0) prelude_names ≡ true → if_ended found (kinds_of rest) ≡ None
has_old_name found [] old = cond-true (list_any (bytes_eq found.0) prelude_names) None (Some found) old
has_old_name found (token ∷ rest) old = refl

pub no_first : (words : List Kind) (material : Ty) (head : List ℕ × List Kind) (body : Term × List Kind)
    (end : List Kind) → head_in words ≡ Some head → material ≡ plain (codes "material") →
    term_in most_height material head.1 ≡ Some body → behind (mark_word (codes ";")) body.1 ≡ Some end →
    if_ended (head.0, body.0) end ≡ None → first_in words ≡ None
unfolding first_in
no_first words material head body end headed is termed marked none =
    let read = ap (λ ty. term_in most_height ty head.1) (sym is) ∙ termed in
    rw (headed, read, marked) none

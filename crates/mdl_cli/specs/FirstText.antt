-- First texts: one exported material without parameters,
-- of constructors with exactly typed positional arguments.
use Rattle.std.specs.Prelude.{◌≡◌, true, false, List, [], ◌∷◌, ◌++◌, Option, Some, None, codes}
use Rattle.std.specs.Prelude.{ℕ, if◌then◌else◌}
use Rattle.std.specs.List.{list_any}
use Rattle.std.specs.Str.{bytes_eq}
use Rattle.type_rules.specs.declared.ty.Arg.{Arg}
use Rattle.type_rules.specs.declared.symbol.Symbol.{Symbol}
use Rattle.type_rules.specs.declared.symbol.Symbol.TheVariants as symbol
use Rattle.type_rules.specs.Types.{plain}
use Rattle.type_rules.specs.Terms.{Term, Terms, apply, nil, cons, term_type, kid_types, Takes}
use Rattle.mdl_lexer.specs.declared.token.Kind.{Kind}
use Rattle.mdl_lexer.specs.declared.token.Kind.TheVariants as kind
use Rattle.mdl_lexer.specs.declared.token.Token.{Token}
use Rattle.mdl_lexer.specs.Lexes.{HasTokens}
use Rattle.mdl_cli.specs.Names.{prelude_names}
use Rattle.mdl_cli.specs.Words.{kinds_of, name_word, mark_word}

-- an argument of the type of this name
abbrev pub varies : List ℕ → Arg
varies name = record { ty = plain name; uniform = false }

-- the same for a uniform field
abbrev pub uniformly : List ℕ → Arg
uniformly name = record { ty = plain name; uniform = true }

-- the constructor of a type
abbrev pub constructor : List ℕ → List Arg → Symbol
constructor name args = symbol.Op name args (plain name) false

-- a value of `intensity_mode`
abbrev pub mode : List ℕ → Symbol
mode name = symbol.EnumValue (codes "intensity_mode") name

abbrev pub emission_fields : List Arg
emission_fields = varies (codes "edf") ∷ varies (codes "color") ∷ varies (codes "intensity_mode") ∷ []

abbrev pub surface_fields : List Arg
surface_fields = varies (codes "bsdf") ∷ varies (codes "material_emission") ∷ []

abbrev pub volume_fields : List Arg
volume_fields = varies (codes "vdf") ∷ varies (codes "color") ∷ varies (codes "color") ∷ []

abbrev pub geometry_fields : List Arg
geometry_fields = varies (codes "float3") ∷ varies (codes "float") ∷ varies (codes "float3") ∷ []

abbrev pub material_fields : List Arg
material_fields =
    uniformly (codes "bool") ∷ varies (codes "material_surface") ∷ varies (codes "material_surface")
    ∷ uniformly (codes "color") ∷ varies (codes "material_volume") ∷ varies (codes "material_geometry")
    ∷ varies (codes "hair_bsdf") ∷ []

-- the symbols of a first text's term by the names that stand for them, reals aside
abbrev pub forms : List (List ℕ × Symbol)
forms =
    (codes "true", symbol.Bool true) ∷ (codes "false", symbol.Bool false)
    ∷ (codes "intensity_radiant_exitance", mode (codes "intensity_radiant_exitance"))
    ∷ (codes "intensity_power", mode (codes "intensity_power"))
    ∷ (codes "bsdf", constructor (codes "bsdf") []) ∷ (codes "edf", constructor (codes "edf") [])
    ∷ (codes "vdf", constructor (codes "vdf") []) ∷ (codes "hair_bsdf", constructor (codes "hair_bsdf") [])
    ∷ (codes "state_normal", symbol.Op (codes "state_normal") [] (plain (codes "float3")) true)
    ∷ (codes "color", constructor (codes "color") (varies (codes "float") ∷ []))
    ∷ (codes "float3", constructor (codes "float3") (varies (codes "float") ∷ []))
    ∷ (codes "material_emission", constructor (codes "material_emission") emission_fields)
    ∷ (codes "material_surface", constructor (codes "material_surface") surface_fields)
    ∷ (codes "material_volume", constructor (codes "material_volume") volume_fields)
    ∷ (codes "material_geometry", constructor (codes "material_geometry") geometry_fields)
    ∷ (codes "material", constructor (codes "material") material_fields) ∷ []

abbrev pub named_in : List (List ℕ × Symbol) → List ℕ → Option Symbol
named_in [] name = None
named_in (row ∷ rows) name = if bytes_eq name row.0 then Some row.1 else named_in rows name

-- the symbol that a name stands for
unfoldable pub symbol_named : List ℕ → Option Symbol
symbol_named name = named_in forms name

-- the name that stands for a symbol
abbrev pub head_of : Symbol → List ℕ
head_of (symbol.Bool value) = if value then codes "true" else codes "false"
head_of (symbol.EnumValue ty value) = value
head_of (symbol.Op name args result varying) = name
head_of _ = []

-- a symbol of a first text's term: a float, or one that a name stands for
abbrev pub IsForm : Symbol → Type 0
IsForm (symbol.Real text double) = double ≡ false
IsForm s = symbol_named (head_of s) ≡ Some s

-- the term is made of these symbols, each with kids of exactly the types that it takes
abbrev mutual
  pub IsFirst : Term → Type 0
  IsFirst (apply s ts) = IsForm s × (Takes s (kid_types ts) × AreFirst ts)

  pub AreFirst : Terms → Type 0
  AreFirst nil = Unit {0}
  AreFirst (cons t ts) = IsFirst t × AreFirst ts

-- a symbol's name, around the words of its kids where it is an operation
abbrev pub head_words : Symbol → List Kind → List Kind
head_words (symbol.Real text double) kids = kind.Real text double ∷ []
head_words (symbol.Op name args result varying) kids =
    name_word name ∷ mark_word (codes "(") ∷ (kids ++ mark_word (codes ")") ∷ [])
head_words s kids = name_word (head_of s) ∷ []

-- the words of a term: an operation has its kids in parentheses, with commas between them
abbrev mutual
  pub written : Term → List Kind
  written (apply s ts) = head_words s (kid_words ts)

  pub kid_words : Terms → List Kind
  kid_words nil = []
  kid_words (cons t ts) = written t ++ behind_commas ts

  pub behind_commas : Terms → List Kind
  behind_commas nil = []
  behind_commas (cons t ts) = mark_word (codes ",") ∷ (written t ++ behind_commas ts)

-- the words of a first text
abbrev pub first_words : List ℕ → List ℕ → Term → List Kind
first_words version name term =
    name_word (codes "mdl") ∷ kind.Real version false ∷ mark_word (codes ";")
    ∷ name_word (codes "export") ∷ name_word (codes "material") ∷ kind.Word name
    ∷ mark_word (codes "(") ∷ mark_word (codes ")") ∷ mark_word (codes "=")
    ∷ (written term ++ mark_word (codes ";") ∷ [])

abbrev pub versions : List (List ℕ)
versions =
    codes "1.0" ∷ codes "1.1" ∷ codes "1.2" ∷ codes "1.3" ∷ codes "1.4" ∷ codes "1.5"
    ∷ codes "1.6" ∷ []

-- these words are a first text of the material of this name, and this is its term
pub record AreFirstWords (words : List Kind) (name : List ℕ) (term : Term) : Type 0 where
  pub version : List ℕ
  pub known_version : list_any (bytes_eq version) versions ≡ true
  pub new_name : list_any (bytes_eq name) prelude_names ≡ false
  pub first : IsFirst term
  pub material : term_type term ≡ plain (codes "material")
  pub are : words ≡ first_words version name term

-- the bytes are a first text of the material of this name, and this is its term
pub record IsFirstText (bytes name : List ℕ) (term : Term) : Type 0 where
  pub tokens : List Token
  pub has : HasTokens bytes tokens
  pub first : AreFirstWords (kinds_of tokens) name term

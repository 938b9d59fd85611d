-- The names of imported modules stand at tokens.
use Rattle.std.proofs.Common.{◌≡◌, ℕ, suc, zero, List, [], ◌∷◌, length, map, take, drop, flat_map}
use Rattle.std.proofs.Common.{subst}
use Rattle.std.specs.List.{AllByRecursion}
use Rattle.mdl_lexer.specs.declared.token.Token.{Token}
use Rattle.mdl_lexer.specs.Places.{IsPlace}
use Rattle.mdl_syntax.specs.declared.imports.ModuleRef.{ModuleRef}
use Rattle.mdl_syntax.specs.declared.imports.Qualified.{Qualified}
use Rattle.mdl_syntax.specs.declared.imports.Import.{Import}
use Rattle.mdl_syntax.specs.declared.imports.Import.TheVariants as import_form
use Rattle.mdl_syntax.specs.Modules.{ModuleTree}
use Rattle.mdl_syntax.specs.Placed.{place_of}
use Rattle.mdl_syntax.specs.PlacedModules.{placed_each, placed_qualified, placed_import, placed_module}
use Rattle.mdl_syntax.specs.WrittenModules.{qualified_words, module_words, write_import}
use Rattle.module_set.specs.Imports.{references_in, references}
use Rattle.module_loader.specs.inside.Texts.{ArePlaces}
use Rattle.module_loader.proofs.ContentLaws.{all-append}

module _ (Good : ℕ → Type 0) (start : Good 0) where
  AreGood : List Token → Type 0
  AreGood tokens = AllByRecursion (λ (token : Token). Good token.at) tokens

  GoodReferences : List ModuleRef → Type 0
  GoodReferences all = AllByRecursion (λ (reference : ModuleRef). Good reference.span.at) all

  good-drop : (n : ℕ) (tokens : List Token) → AreGood tokens → AreGood (drop n tokens)
  unfolding AreGood
  good-drop zero tokens h = h
  good-drop (suc n) [] h = h
  good-drop (suc n) (token ∷ tokens) h = good-drop n tokens h.1

  good-take : (n : ℕ) (tokens : List Token) → AreGood tokens → AreGood (take n tokens)
  unfolding AreGood
  good-take zero tokens h = tt
  good-take (suc n) [] h = tt
  good-take (suc n) (token ∷ tokens) h = (h.0, good-take n tokens h.1)

  good-place : (tokens : List Token) → AreGood tokens → Good (place_of tokens).at
  unfolding AreGood
  good-place [] h = start
  good-place (token ∷ tokens) h = h.0

  good-items : (items : List Qualified) (tokens : List Token) → AreGood tokens →
      GoodReferences (map (λ item. item.module) (placed_each qualified_words placed_qualified 1 items tokens))
  unfolding GoodReferences
  good-items [] tokens h = tt
  good-items (item ∷ items) tokens h =
      let own = good-take (length (qualified_words item)) tokens h in (
        good-place _ (good-take (length (module_words item.module)) _ own),
        good-items items _ (good-drop _ tokens h),
      )

  good-import : (one : Import) (tokens : List Token) → AreGood tokens →
      GoodReferences (references_in (placed_import one tokens))
  unfolding GoodReferences
  good-import (import_form.Import items span) tokens h = good-items items (drop 1 tokens) (good-drop 1 tokens h)
  good-import (import_form.Using name names span) tokens h =
      (good-place _ (good-take (length (module_words name)) _ (good-drop 1 tokens h)), tt)

  good-imports : (imports : List Import) (tokens : List Token) → AreGood tokens →
      GoodReferences (flat_map references_in (placed_each write_import placed_import 0 imports tokens))
  unfolding GoodReferences
  good-imports [] tokens h = tt
  good-imports (one ∷ imports) tokens h =
      all-append _ _ _ (good-import one _ (good-take (length (write_import one)) tokens h))
      (good-imports imports _ (good-drop _ tokens h))

  good-module : (tree : ModuleTree) (tokens : List Token) → AreGood tokens →
      GoodReferences (references (placed_module tree tokens))
  good-module tree tokens h = good-imports tree.imports (drop 3 tokens) (good-drop 3 tokens h)

-- where the tokens stand behind text, the names of imported modules do
pub are-places : (bytes : List ℕ) (tree : ModuleTree) (tokens : List Token) → IsPlace bytes 0 →
    AllByRecursion (λ (token : Token). IsPlace bytes token.at) tokens → placed_module tree tokens ≡ tree →
    ArePlaces bytes tree
unfolding AreGood GoodReferences
are-places bytes tree tokens start h placed =
    subst (ArePlaces bytes) placed (good-module (IsPlace bytes) start tree tokens h)

-- The machine of modules reads a whole module, once its declarations and annotations are read.
use Rattle.std.proofs.Common.{◌≡◌, sym, ap, subst, refl, arith, ℕ, ◌≤◌, Bool, true, false}
use Rattle.std.proofs.Common.{List, [], ◌∷◌, ◌++◌, codes, Option, Some, None}
use Rattle.std.proofs.lemmas.Bool.{cond-true}
use Rattle.mdl_lexer.specs.declared.token.Token.{Token}
use Rattle.mdl_syntax.specs.declared.imports.Import.{Import}
use Rattle.mdl_syntax.specs.declared.expressions.Lit.TheVariants as lit
use Rattle.mdl_syntax.specs.declared.modules.VersionLit.{VersionLit}
use Rattle.mdl_syntax.specs.Placed.{last_end}
use Rattle.mdl_syntax.specs.Modules.{Annotation, Declaration, ModuleTree}
use Rattle.mdl_syntax.specs.AcceptedModules.{highest, annotations_height, declaration_height}
use Rattle.mdl_syntax.specs.AcceptedModules.{module_height, is_version}
use Rattle.expression_grammar.specs.inside.Machine.{sort_of, semicolon, mdl_word, module_word}
use Rattle.expression_grammar.specs.inside.Machine.{other_literal}
use Rattle.module_grammar.specs.inside.ModuleStates.{State, on, within, Begun, the_module}
use Rattle.module_grammar.specs.inside.ModuleStates.{item_wanted, own_wanted, mdl_wanted}
use Rattle.module_grammar.specs.inside.ModuleStates.{version_wanted, version_read, other_version}
use Rattle.expression_grammar.specs.inside.Sound.{IsMark, place}
use Rattle.module_grammar.specs.inside.WroteModules.{ImportWrote, DeclarationWrote, EachWrote, no_other}
use Rattle.module_grammar.specs.inside.WroteModules.{another, OwnWrote, no_own, own_tokens, WroteModule}
use Rattle.module_grammar.specs.inside.WroteModules.{module_tokens}
use Rattle.module_grammar.specs.inside.ModuleLeads.{ModuleLeads, ModuleEnds}
use Rattle.expression_grammar.proofs.KindLaws.{last_end_append}
use Rattle.module_grammar.proofs.ModuleEndLaws.{import_ends}
use Rattle.module_grammar.proofs.ModuleReadsParts.{Way, way_on, stay, by_sort, by_loose}
use Rattle.module_grammar.proofs.ModuleReadsImports.{import_reads}
use Rattle.module_grammar.proofs.ModuleReadsLists.{EachLaw, each_reads}
use Rattle.module_grammar.proofs.ModuleReadsNotes.{InnerLaw, NotesEdge, noted, notes_read}

abbrev begun_of : ℕ → VersionLit → List Import → Option (List Annotation) → List Declaration → ℕ →
    Begun
begun_of at version imports notes declarations end = record {
  at = at;
  end = end;
  version = version;
  imports = imports;
  annotations = notes;
  declarations = declarations;
}

abbrev imports_state : ℕ → VersionLit → List Import → ℕ → State
imports_state at version imports end =
    within (begun_of at version imports None [] end) (item_wanted true)

imports_law : (strict : Bool) (limit at : ℕ) (version : VersionLit) →
    EachLaw strict limit ImportWrote (λ one. 0) (imports_state at version)
imports_law strict limit at version done end one tokens wrote low =
    subst (λ n. Way strict limit (imports_state at version done end) tokens
    (imports_state at version (done ++ one ∷ []) n)) (sym (import_ends one tokens wrote end))
    (import_reads strict limit (begun_of at version done None [] end) one tokens wrote)

none_high : (limit : ℕ) (list : List Import) → highest (λ one. 0) list ≤ limit
none_high limit [] = omega arith
none_high limit (first ∷ more) = let rest = none_high limit more in omega (arith, rest)

-- a declaration that is low enough is read wherever one may come
abbrev pub DeclarationLaw : Bool → ℕ → Type 0
DeclarationLaw strict limit =
    (at : ℕ) (version : VersionLit) (imports : List Import) (notes : Option (List Annotation))
    (done : List Declaration) (end : ℕ) (early : Bool) (one : Declaration) (tokens : List Token) →
    DeclarationWrote strict one tokens → declaration_height one ≤ limit →
    Way strict limit (within (begun_of at version imports notes done end) (item_wanted early)) tokens
    (within (begun_of at version imports notes (done ++ one ∷ []) (last_end end tokens))
    (item_wanted false))

-- all declarations of the module, and its end
record DeclaredRead (strict : Bool) (limit : ℕ) (begun last_begun : Begun) (early : Bool)
    (tokens : List Token) : Type 0 where
  then : Bool
  leads : Way strict limit (within begun (item_wanted early)) tokens
      (within last_begun (item_wanted then))

declarations_read : (strict : Bool) (limit : ℕ) → DeclarationLaw strict limit → (at : ℕ)
    (version : VersionLit) (imports : List Import) (notes : Option (List Annotation)) (end : ℕ)
    (early : Bool) (declarations : List Declaration) (tokens : List Token) →
    EachWrote (DeclarationWrote strict) declarations tokens →
    highest declaration_height declarations ≤ limit →
    DeclaredRead strict limit (begun_of at version imports notes [] end)
    (begun_of at version imports notes declarations (last_end end tokens)) early tokens
declarations_read strict limit law at version imports notes end early declarations tokens no_other
    low = record { then = early; leads = stay }
declarations_read strict limit law at version imports notes end early declarations tokens
    (another first more own others one_wrote more_wrote) low =
    let state = λ (done : List Declaration) (n : ℕ).
    within (begun_of at version imports notes done n) (item_wanted false) in
    let rest = each_reads strict limit (DeclarationWrote strict) declaration_height state
    (λ done n one tokens wrote low. law at version imports notes done n false one tokens wrote low)
    (first ∷ []) (last_end end own) more others more_wrote (omega (arith, low)) in record {
      then = false;
      leads = subst (λ n. Way strict limit
          (within (begun_of at version imports notes [] end) (item_wanted early)) (own ++ others)
          (state (first ∷ more) n)) (sym (last_end_append end own others))
          (way_on (state (first ∷ []) (last_end end own))
          (law at version imports notes [] end early first own one_wrote (omega (arith, low)))
          rest);
    }

record OwnRead (strict : Bool) (limit : ℕ) (begun last_begun : Begun) (tokens : List Token) : Type 0
  where
    early : Bool
    leads : Way strict limit (within begun (item_wanted true)) tokens
        (within last_begun (item_wanted early))

own_on : (strict : Bool) (limit at : ℕ) (version : VersionLit) (imports : List Import)
    (before last : ℕ) (state then : State) (annotations : List Annotation) (end : ℕ)
    (mark : Token) → IsMark mark (codes ";") →
    NotesEdge (begun_of at version imports None [] before) the_module state last (Some annotations)
    end then →
    Way strict limit then (mark ∷ [])
    (within (begun_of at version imports (Some annotations) [] mark.end) (item_wanted false))
own_on strict limit at version imports before last state then annotations end mark m (noted _ _) =
    by_sort (within (begun_of at version imports (Some annotations) [] mark.end) (item_wanted false))
    semicolon (ap sort_of m.is) tt (λ number. refl) refl stay

own_read : (strict : Bool) (limit : ℕ) → InnerLaw strict limit → (at : ℕ) (version : VersionLit)
    (imports : List Import) (before : ℕ) (notes : Option (List Annotation)) (tokens : List Token) →
    OwnWrote strict notes tokens → annotations_height notes ≤ limit →
    OwnRead strict limit (begun_of at version imports None [] before)
    (begun_of at version imports notes [] (last_end before tokens)) tokens
own_read strict limit inner at version imports before notes tokens no_own low =
    record { early = true; leads = stay }
own_read strict limit inner at version imports before notes tokens
    (own_tokens word mark annotations end own w notes_wrote m) low =
    let begun = begun_of at version imports None [] before in
    let read = notes_read strict limit inner begun the_module (within begun own_wanted) 0
    (Some annotations) end own (λ n at. refl) notes_wrote low in record {
      early = false;
      leads = subst (λ n. Way strict limit (within begun (item_wanted true))
          (word ∷ (own ++ mark ∷ []))
          (within (begun_of at version imports (Some annotations) [] n) (item_wanted false)))
          (sym (last_end_append word.end own (mark ∷ [])))
          (by_sort (within begun own_wanted) module_word (ap sort_of w.is) tt (λ n. refl) refl
          (way_on read.last read.leads
          (own_on strict limit at version imports before 0 (within begun own_wanted) read.last
          annotations end mark m read.edge)));
    }

at_first : (strict : Bool) (limit : ℕ) {state last : State} {tokens : List Token} →
    Way strict limit state tokens last → ModuleLeads strict limit 0 state tokens last
at_first strict limit way = way 0

by_version : (strict : Bool) (limit at : ℕ) {last : State} {token : Token} {tokens : List Token}
    (version : VersionLit) → (strict ≡ true → is_version version.text version.double ≡ true) →
    sort_of token.kind ≡ other_literal (lit.Real version.text version.double) →
    place token ≡ version.span → Way strict limit (version_read at version) tokens last →
    Way strict limit (version_wanted at) (token ∷ tokens) last
by_version true limit at {last} {token} {tokens} version is sort same way =
    by_sort (version_read at version) (other_literal (lit.Real version.text version.double)) sort tt
    (λ n. ap (λ s. on (version_read at (record {
      text = version.text;
      double = version.double;
      span = s;
    }))) same)
    (cond-true (is_version version.text version.double) (on (version_read at version)) other_version
    (is refl)) way
by_version false limit at {last} {token} {tokens} version is sort same way =
    by_loose (version_read at version) (other_literal (lit.Real version.text version.double)) sort tt
    (λ n. ap (λ s. on (version_read at (record {
      text = version.text;
      double = version.double;
      span = s;
    }))) same) refl way

-- what is written for a module whose version is one, and that is low enough, is read as it
pub module_reads_from : (strict : Bool) (limit : ℕ) → InnerLaw strict limit →
    DeclarationLaw strict limit → (tree : ModuleTree) (tokens : List Token) →
    WroteModule strict tree tokens →
    (strict ≡ true → is_version tree.version.text tree.version.double ≡ true) →
    module_height tree ≤ limit →
    ModuleEnds strict limit 0 mdl_wanted tokens tree
module_reads_from strict limit inner law tree tokens
    (module_tokens word number mark text double imports notes declarations imported owns declared w
    n m imports_wrote own_wrote declared_wrote) is low =
    let version : VersionLit = record { text = text; double = double; span = place number } in
    let first = each_reads strict limit ImportWrote (λ one. 0) (imports_state word.at version)
    (imports_law strict limit word.at version) [] mark.end imports imported imports_wrote
    (none_high limit imports) in
    let own = own_read strict limit inner word.at version imports (last_end mark.end imported) notes
    owns own_wrote (omega (arith, low)) in
    let rest = declarations_read strict limit law word.at version imports notes
    (last_end (last_end mark.end imported) owns) own.early declarations declared declared_wrote
    (omega (arith, low)) in record {
      last = within (begun_of word.at version imports notes declarations
          (last_end (last_end (last_end mark.end imported) owns) declared)) (item_wanted rest.then);
      leads = at_first strict limit (by_sort (version_wanted word.at) mdl_word
          (ap sort_of w.is) tt (λ n. refl) refl
          (by_version strict limit word.at version is (ap sort_of n) refl
          (by_sort (imports_state word.at version [] mark.end) semicolon (ap sort_of m.is) tt
          (λ n. refl) refl
          (way_on (imports_state word.at version imports (last_end mark.end imported)) first
          (way_on (within (begun_of word.at version imports notes []
          (last_end (last_end mark.end imported) owns)) (item_wanted own.early)) own.leads
          rest.leads)))));
      ends = λ whole at. refl;
    }

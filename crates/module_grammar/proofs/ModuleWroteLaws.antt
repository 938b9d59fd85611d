-- What a module writes is written form by form, with the places of any tokens that are its words.
use Rattle.std.proofs.Common.{◌≡◌, ◌∙◌, sym, ap, subst, refl, Bool, true, false, ◌==◌, ◌&&◌, List}
use Rattle.std.proofs.Common.{[], ◌∷◌, ◌++◌, codes, Option, Some, None, drop, length, arith}
use Rattle.std.proofs.lemmas.List.{append_assoc, append-nil}
use Rattle.std.proofs.lemmas.Bool.{eqb-true, false≢true}
use Rattle.std.specs.List.{AllByRecursion}
use Rattle.mdl_lexer.specs.Kinds.{mark_word, name_word}
use Rattle.mdl_lexer.specs.declared.token.Kind.{Kind}
use Rattle.mdl_lexer.specs.declared.token.Kind.TheVariants as kind
use Rattle.mdl_lexer.specs.declared.token.Token.{Token}
use Rattle.mdl_syntax.specs.declared.names.NameForm.{NameForm}
use Rattle.mdl_syntax.specs.declared.names.NameForm.TheVariants as form
use Rattle.mdl_syntax.specs.declared.types.Size.{Size}
use Rattle.mdl_syntax.specs.declared.types.Size.TheVariants as size
use Rattle.mdl_syntax.specs.declared.types.TypeTree.{TypeTree}
use Rattle.mdl_syntax.specs.declared.types.Freq.{Freq}
use Rattle.mdl_syntax.specs.Trees.{Tree}
use Rattle.mdl_syntax.specs.Words.{name_words}
use Rattle.mdl_syntax.specs.Placed.{last_end, behind, placed_form, placed_size, placed_type}
use Rattle.mdl_syntax.specs.Levels.{reserved_number}
use Rattle.mdl_syntax.specs.Modules.{Annotation, Parameter, EnumValue, Declaration, ModuleTree}
use Rattle.mdl_syntax.specs.Modules.{material, variant, function, structure, enumeration}
use Rattle.mdl_syntax.specs.Modules.{annotation}
use Rattle.mdl_syntax.specs.WrittenModules.{write_each, write_import, write_annotations}
use Rattle.mdl_syntax.specs.WrittenModules.{write_declaration, write_own, write_module}
use Rattle.mdl_syntax.specs.WrittenModules.{write_annotation}
use Rattle.mdl_syntax.specs.PlacedModules.{placed_each, placed_import, placed_declaration}
use Rattle.mdl_syntax.specs.PlacedModules.{placed_own, placed_version, placed_module}
use Rattle.mdl_syntax.specs.PlacedModules.{placed_annotation, placed_annotations}
use Rattle.mdl_syntax.specs.LevelledModules.{IsDeclaration, IsImport, AreParameters, AreAnnotations}
use Rattle.mdl_syntax.specs.LevelledModules.{IsMaterialToo, IsModule}
use Rattle.mdl_syntax.specs.AcceptedModules.{PlainDeclaration, PlainParameter, LooseParameter}
use Rattle.mdl_syntax.specs.AcceptedModules.{PlainAnnotations}
use Rattle.expression_grammar.specs.inside.Machine.{from_to}
use Rattle.module_grammar.specs.inside.ModuleStates.{is_material_form, is_one}
use Rattle.expression_grammar.specs.Readings.{kinds}
use Rattle.module_grammar.specs.inside.WroteModules.{DeclarationWrote, ImportWrote, OwnWrote, no_own}
use Rattle.module_grammar.specs.inside.WroteModules.{own_tokens, WroteModule, module_tokens}
use Rattle.module_grammar.specs.inside.WroteModules.{makes_material}
use Rattle.expression_grammar.proofs.CutLaws.{NoTokens, no_tokens, none, First, first, cut_first, Halves}
use Rattle.expression_grammar.proofs.CutLaws.{halves, cut, Last, last, cut_last, head_is, tail_is}
use Rattle.expression_grammar.proofs.KindLaws.{behind_front, last_end_append}
use Rattle.module_grammar.proofs.ModuleWroteLists.{both, each_wrote}
use Rattle.module_grammar.proofs.ModuleWroteParts.{annotations_wrote}
use Rattle.module_grammar.proofs.ModuleWroteParameters.{GoodParameter}
use Rattle.module_grammar.proofs.ModuleWroteImports.{import_wrote}
use Rattle.module_grammar.proofs.ModuleWroteDeclarations.{material_wrote, annotation_declaration_wrote}
use Rattle.module_grammar.proofs.ModuleWroteDeclarations.{structure_wrote, enumeration_wrote}
use Rattle.module_grammar.proofs.ModuleWroteFunctions.{variant_wrote, function_wrote, prototype_wrote}

-- Parameters.

plain_parameters : (strict : Bool) (parameters : List Parameter) → AreParameters parameters →
    (strict ≡ true → AllByRecursion PlainParameter parameters) →
    AllByRecursion (GoodParameter strict strict) parameters
plain_parameters strict [] fits plain = tt
plain_parameters strict (one ∷ parameters) fits plain = (
  (fits.0, λ is. (plain is).0.0, λ is. (plain is).0.1),
  plain_parameters strict parameters fits.1 (λ is. (plain is).1),
)

loose_parameters : (strict : Bool) (parameters : List Parameter) → AreParameters parameters →
    (strict ≡ true → AllByRecursion LooseParameter parameters) →
    AllByRecursion (GoodParameter false strict) parameters
loose_parameters strict [] fits plain = tt
loose_parameters strict (one ∷ parameters) fits plain = (
  (fits.0, λ is. absurd (false≢true is), λ is. (plain is).0),
  loose_parameters strict parameters fits.1 (λ is. (plain is).1),
)

-- Places change no material.

no_material_form : (own : NameForm) (of : Size) (tokens sizes : List Token) →
    ((own ≡ form.Word (reserved_number (codes "material"))) × (of ≡ size.One) → ⊥) →
    (is_material_form (placed_form own tokens) && is_one (placed_size of sizes)) ≡ false
no_material_form (form.Parts absolute parts) of tokens sizes not_both = refl
no_material_form (form.Word number) of tokens sizes not_both =
    by of not_both (number == reserved_number (codes "material")) refl
  where
    by : (of : Size) → ((form.Word number ≡ form.Word (reserved_number (codes "material"))) × (of ≡
        size.One) → ⊥) → (test : Bool) → (number == reserved_number (codes "material")) ≡ test →
        ((number == reserved_number (codes "material")) && is_one (placed_size of sizes)) ≡ false
    by of not_both false other = ap (λ t. t && is_one (placed_size of sizes)) other
    by size.One not_both true same =
        absurd (not_both (
          ap form.Word (eqb-true number (reserved_number (codes "material")) same),
          refl,
        ))
    by (size.Sized value) not_both true same = ap (λ t. t && false) same
    by (size.Deferred name) not_both true same = ap (λ t. t && false) same

no_material : (frequency : Option Freq) (ty : TypeTree) (body : Tree) →
    (IsMaterialToo ty frequency (Some body) → ⊥) → (types : List Token) →
    makes_material frequency (placed_type ty types) ≡ false
no_material None ty body not_material types =
    no_material_form ty.name.form ty.size types (behind (name_words ty.name) 0 types) not_material
no_material (Some frequency) ty body not_material types = refl

-- Declarations.

abbrev pub GoodDeclaration : Bool → Declaration → Type 0
GoodDeclaration strict one = IsDeclaration one × (strict ≡ true → PlainDeclaration one)

pub declaration_wrote : (strict : Bool) (one : Declaration) (tokens : List Token) → GoodDeclaration
    strict one → write_declaration one ≡ kinds tokens → DeclarationWrote strict (placed_declaration
    one tokens) tokens
declaration_wrote strict (material exported name parameters annotations body span) tokens good is =
    let fits = good.0 in let plain = good.1 in
    material_wrote strict exported name parameters annotations body span tokens (plain_parameters
    strict parameters fits.0 (λ is. (plain is).0)) fits.1 (λ is. (plain is).1) fits.2 (λ is. (plain
    is).2) is
declaration_wrote strict (variant exported ty name annotations base arguments span) tokens good is =
    let fits = good.0 in let plain = good.1 in
    variant_wrote strict exported ty name annotations base arguments span tokens fits.0 (λ is.
    (plain is).0) fits.1 (λ is. (plain is).1) (fits.2, fits.3, fits.4) (λ is. (plain is).2) is
declaration_wrote strict (function exported ty name parameters frequency annotations None span)
    tokens good is =
    let fits = good.0 in let plain = good.1 in
    prototype_wrote strict exported ty name parameters frequency annotations span tokens fits.0 (λ
    is. (plain is).0) (loose_parameters strict parameters fits.1 (λ is. (plain is).1)) fits.2 (λ is.
    (plain is).2) is
declaration_wrote strict (function exported ty name parameters frequency annotations (Some body)
    span) tokens good is =
    let fits = good.0 in let plain = good.1 in
    function_wrote strict exported ty name parameters frequency annotations body span tokens
    (no_material frequency ty body fits.4) fits.0 (λ is. (plain is).0) (plain_parameters strict
    parameters fits.1 (λ is. (plain is).1)) fits.2 (λ is. (plain is).2) fits.3 (λ is. (plain is).3)
    is
declaration_wrote strict (structure exported name annotations fields span) tokens good is =
    let fits = good.0 in let plain = good.1 in
    structure_wrote strict exported name annotations fields span tokens
    (plain_parameters strict fields fits.1 (λ is. (plain is).1)) fits.0 (λ is. (plain is).0) is
declaration_wrote strict (enumeration exported name annotations values span) tokens good is =
    let fits = good.0 in let plain = good.1 in
    enumeration_wrote strict exported name annotations values span tokens fits.1 (both (λ (one :
    EnumValue). AreAnnotations one.annotations) (λ (one : EnumValue). PlainAnnotations
    one.annotations) strict values fits.2 (λ is. (plain is).1)) fits.0 (λ is. (plain is).0) is
declaration_wrote strict (annotation exported name parameters annotations span) tokens good is =
    let fits = good.0 in let plain = good.1 in
    annotation_declaration_wrote strict exported name parameters annotations span tokens
    (loose_parameters strict parameters fits.0 (λ is. (plain is).0)) fits.1 (λ is. (plain is).1) is

-- Modules.

own_wrote : (strict : Bool) (annotations : Option (List Annotation)) (tokens rest : List Token) →
    AreAnnotations annotations → (strict ≡ true → PlainAnnotations annotations) → write_own
    annotations ≡ kinds tokens → OwnWrote strict (placed_own annotations (tokens ++ rest)) tokens
own_wrote strict None tokens rest fits plain is = by tokens (none is)
  where
    by : (tokens : List Token) → NoTokens tokens → OwnWrote strict None tokens
    by tokens no_tokens = no_own
own_wrote strict (Some annotations) tokens rest fits plain is = by tokens (cut_first is)
  where
    inner : (word : Token) (more : List Token) → word.kind ≡ name_word (codes "module") →
        Last (write_annotations (Some annotations)) (mark_word (codes ";")) more →
        OwnWrote strict (placed_annotations (Some annotations) (more ++ rest)) (word ∷ more)
    inner word more w (last notes semicolon a s) =
        subst (λ list. OwnWrote strict (placed_annotations (Some annotations) list) (word ∷ (notes
        ++ semicolon ∷ []))) (sym (append_assoc notes (semicolon ∷ []) rest)) (own_tokens word
        semicolon (annotation_list (notes ++ semicolon ∷ rest)) (last_end 0 notes) notes (record {
          is = w;
        }) (annotations_wrote strict 0 (Some annotations) notes (semicolon ∷ rest) fits plain
        a) (record { is = s }))
      where
        annotation_list : List Token → List Annotation
        annotation_list list = placed_each write_annotation placed_annotation 1 annotations (drop 2
            list)

    by : (tokens : List Token) → First (name_word (codes "module"))
        (write_annotations (Some annotations) ++ mark_word (codes ";") ∷ []) tokens →
        OwnWrote strict (placed_own (Some annotations) (tokens ++ rest)) tokens
    by tokens (first word more w is) = inner word more w (cut_last is)

pub wrote_module : (strict : Bool) (tree : ModuleTree) (tokens : List Token) → IsModule tree →
    (strict ≡ true → PlainAnnotations tree.annotations × AllByRecursion PlainDeclaration
    tree.declarations) → write_module tree ≡ kinds tokens → WroteModule strict (placed_module tree
    tokens) tokens
wrote_module strict tree tokens fits plain is = start tokens is
  where
    import_words : List Kind
    import_words = write_each write_import tree.imports

    declaration_words : List Kind
    declaration_words = write_each write_declaration tree.declarations

    inner : (word number semicolon : Token) (imported owns declared : List Token) → word.kind ≡
        name_word (codes "mdl") → number.kind ≡ kind.Real tree.version.text tree.version.double →
        semicolon.kind ≡ mark_word (codes ";") → import_words ≡ kinds imported → write_own
        tree.annotations ≡ kinds owns → declaration_words ≡ kinds declared → WroteModule strict
        (placed_module tree (word ∷ number ∷ semicolon ∷ (imported ++ (owns ++ declared)))) (word ∷
        number ∷ semicolon ∷ (imported ++ (owns ++ declared)))
    inner word number semicolon imported owns declared w n s m o d =
        subst (λ (made : ModuleTree). WroteModule strict made whole) (sym (λ i. record {
          version = placed_version tree.version (number ∷ semicolon ∷ (imported ++ (owns ++
              declared)));
          imports = placed_each write_import placed_import 0 tree.imports (imported ++ (owns ++
              declared));
          annotations = placed_own tree.annotations (at_own i);
          declarations = placed_each write_declaration placed_declaration 0 tree.declarations
              (at_declarations i);
          span = from_to word.at (ends i);
        })) (module_tokens word number semicolon tree.version.text tree.version.double
        (placed_each write_import placed_import 0 tree.imports (imported ++ (owns ++ declared)))
        (placed_own tree.annotations (owns ++ declared)) (placed_each write_declaration
        placed_declaration 0 tree.declarations (declared ++ [])) imported owns declared (record {
          is
              = w;
        }) n (record { is = s }) (each_wrote ImportWrote write_import placed_import IsImport
        import_wrote tree.imports imported (owns ++ declared) fits.imports m) (own_wrote strict
        tree.annotations owns declared fits.annotations (λ is. (plain is).0) o) (each_wrote
        (DeclarationWrote strict) write_declaration placed_declaration (GoodDeclaration strict)
        (declaration_wrote strict) tree.declarations declared [] (both IsDeclaration
        PlainDeclaration strict tree.declarations fits.declarations (λ is. (plain is).1)) d))
      where
        whole : List Token
        whole = word ∷ number ∷ semicolon ∷ (imported ++ (owns ++ declared))

        at_own : behind import_words 0 (imported ++ (owns ++ declared)) ≡ owns ++ declared
        at_own = behind_front import_words 0 imported (owns ++ declared) m

        at_declarations : behind (write_own tree.annotations) 0 (behind import_words 0 (imported ++
            (owns ++ declared))) ≡ declared ++ []
        at_declarations =
            ap (behind (write_own tree.annotations) 0) at_own ∙ (behind_front (write_own
            tree.annotations) 0 owns declared o ∙ sym (append-nil declared))

        ends : last_end semicolon.end (imported ++ (owns ++ declared))
            ≡ last_end (last_end (last_end semicolon.end imported) owns) declared
        ends =
            last_end_append semicolon.end imported (owns ++ declared)
            ∙ last_end_append (last_end semicolon.end imported) owns declared

    third : (word number semicolon : Token) (imported more : List Token) → word.kind ≡ name_word
        (codes "mdl") → number.kind ≡ kind.Real tree.version.text tree.version.double →
        semicolon.kind ≡ mark_word (codes ";") → import_words ≡ kinds imported → Halves (write_own
        tree.annotations) declaration_words more → WroteModule strict (placed_module tree (word ∷
        number ∷ semicolon ∷ (imported ++ more))) (word ∷ number ∷ semicolon ∷ (imported ++ more))
    third word number semicolon imported more w n s m (halves owns declared o d) =
        inner word number semicolon imported owns declared w n s m o d

    second : (word number semicolon : Token) (more : List Token) → word.kind ≡ name_word (codes
        "mdl") → number.kind ≡ kind.Real tree.version.text tree.version.double → semicolon.kind ≡
        mark_word (codes ";") → Halves import_words (write_own tree.annotations ++
        declaration_words) more → WroteModule strict (placed_module tree (word ∷ number ∷ semicolon
        ∷ more)) (word ∷ number ∷ semicolon ∷ more)
    second word number semicolon more w n s (halves imported rest m is) =
        third word number semicolon imported rest w n s m (cut is)

    start : (tokens : List Token) → write_module tree ≡ kinds tokens →
        WroteModule strict (placed_module tree tokens) tokens
    start (word ∷ number ∷ semicolon ∷ more) is =
        second word number semicolon more (head_is is) (head_is (tail_is is)) (head_is (tail_is
        (tail_is is))) (cut (tail_is (tail_is (tail_is is))))
    start _ is = absurd (omega (arith, ap length is))

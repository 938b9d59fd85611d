-- Declarations that begin with a type are written part by part.
use Rattle.std.proofs.Common.{◌≡◌, ◌∙◌, sym, ap, subst, refl, arith, ℕ, Bool, true, false, List, []}
use Rattle.std.proofs.Common.{◌∷◌, ◌++◌, drop, codes, Option, Some, None, length, ◌+◌, ◌≤◌}
use Rattle.std.proofs.lemmas.List.{append_assoc, length-append, drop-append-le, length-drop}
use Rattle.std.specs.List.{AllByRecursion}
use Rattle.mdl_lexer.specs.Kinds.{mark_word}
use Rattle.mdl_lexer.specs.declared.token.Kind.{Kind}
use Rattle.mdl_lexer.specs.declared.token.Token.{Token}
use Rattle.mdl_syntax.specs.declared.names.Span.{Span}
use Rattle.mdl_syntax.specs.declared.names.Ident.{Ident}
use Rattle.mdl_syntax.specs.declared.names.Name.{Name}
use Rattle.mdl_syntax.specs.declared.types.TypeTree.{TypeTree}
use Rattle.mdl_syntax.specs.declared.types.Freq.{Freq}
use Rattle.mdl_syntax.specs.Trees.{Tree, Arguments, call}
use Rattle.mdl_syntax.specs.Words.{ident_word, name_words, type_words, frequency_words}
use Rattle.mdl_syntax.specs.Written.{write, write_arguments}
use Rattle.mdl_syntax.specs.Placed.{last_end, place_of, tokens_of, behind, placed, placed_ident}
use Rattle.mdl_syntax.specs.Placed.{placed_name, placed_type, placed_arguments}
use Rattle.mdl_syntax.specs.Levelled.{IsName, Levelled, NoneDeferred, is_deferred}
use Rattle.mdl_syntax.specs.Modules.{Annotation, Parameter, Declaration, variant, function}
use Rattle.mdl_syntax.specs.WrittenModules.{write_annotations, write_parameters, export_words}
use Rattle.mdl_syntax.specs.WrittenModules.{write_declaration}
use Rattle.mdl_syntax.specs.PlacedModules.{placed_annotations, placed_parameters}
use Rattle.mdl_syntax.specs.PlacedModules.{placed_declaration}
use Rattle.mdl_syntax.specs.LevelledModules.{AreAnnotations}
use Rattle.mdl_syntax.specs.AcceptedModules.{PlainAnnotations}
use Rattle.expression_grammar.specs.inside.Machine.{from_to}
use Rattle.expression_grammar.specs.Readings.{kinds}
use Rattle.expression_grammar.specs.inside.Wrote.{TypeWrote}
use Rattle.module_grammar.specs.inside.WroteModules.{DeclarationWrote, variant_tokens, function_tokens}
use Rattle.module_grammar.specs.inside.WroteModules.{prototype_tokens, makes_material}
use Rattle.expression_grammar.proofs.CutLaws.{Around, around, cut_at, Halves, halves, cut, Last, last}
use Rattle.expression_grammar.proofs.CutLaws.{cut_last, head_is, tail_is}
use Rattle.expression_grammar.proofs.WroteLaws.{wrote}
use Rattle.expression_grammar.proofs.ListLaws.{arguments_front}
use Rattle.expression_grammar.proofs.TypeWroteLaws.{type_wrote, type_some}
use Rattle.expression_grammar.proofs.KindLaws.{front_of, behind_front, last_end_append, not_empty_append}
use Rattle.expression_grammar.proofs.KindLaws.{append_some, length_kinds, name_front}
use Rattle.module_grammar.proofs.ModuleWroteParts.{first_at, EndsAt, ends_behind, place_ends}
use Rattle.module_grammar.proofs.ModuleWroteParts.{export_wrote, annotations_wrote, frequency_wrote}
use Rattle.module_grammar.proofs.ModuleWroteParameters.{GoodParameter, parameters_wrote, type_before}
use Rattle.module_grammar.proofs.ModuleWroteParameters.{begins_front}

-- the front of a declaration: `export`, a type and a name
data Typed (exported : Bool) (ty : TypeTree) (name : Ident) (more : List Kind) : List Token → Type 0
  where
    typed : (exports types : List Token) (named : Token) (rest : List Token) → export_words exported
        ≡ kinds exports → type_words ty ≡ kinds types → named.kind ≡ ident_word name → more ≡ kinds
        rest → Typed exported ty name more (exports ++ (types ++ named ∷ rest))

cut_typed : (exported : Bool) (ty : TypeTree) (name : Ident) (more : List Kind) (tokens : List
    Token) → export_words exported ++ (type_words ty ++ (ident_word name ∷ more)) ≡ kinds tokens →
    Typed exported ty name more tokens
cut_typed exported ty name more tokens is = by tokens (cut is)
  where
    inner : (exports rest : List Token) → export_words exported ≡ kinds exports →
        Around (type_words ty) (ident_word name) more rest → Typed exported ty name more (exports ++
        rest)
    inner exports rest e (around types named others t n is) = typed exports types named others e t n
        is

    by : (tokens : List Token) → Halves (export_words exported) (type_words ty ++ (ident_word name ∷
        more)) tokens → Typed exported ty name more tokens
    by tokens (halves exports rest e is) = inner exports rest e (cut_at is)

typed_place : (ty : TypeTree) (exports types : List Token) (named : Token) (rest : List Token)
    (close : ℕ) → type_words ty ≡ kinds types → (types ≡ [] → ⊥) → EndsAt rest close → place_of
    (exports ++ (types ++ named ∷ rest)) ≡ from_to (first_at (placed_type ty types).span.at exports)
    close
typed_place ty exports types named rest close t some ends =
    place_ends (exports ++ (types ++ named ∷ rest)) (first_at (placed_type ty types).span.at
    exports) close (append_some exports (types ++ named ∷ rest) (not_empty_append types named rest))
    (begins_front ty exports types named rest t some) (ends_behind exports (types ++ named ∷ rest)
    close (ends_behind types (named ∷ rest) close (λ end. ends named.end)))

-- where the type and the name are
at_type : (exported : Bool) (exports more : List Token) → export_words exported ≡ kinds exports →
    behind (export_words exported) 0 (exports ++ more) ≡ more
at_type exported exports more e = behind_front (export_words exported) 0 exports more e

at_name : (exported : Bool) (ty : TypeTree) (exports types more : List Token) →
    export_words exported ≡ kinds exports → type_words ty ≡ kinds types →
    behind (type_words ty) 0 (behind (export_words exported) 0 (exports ++ (types ++ more))) ≡ more
at_name exported ty exports types more e t =
    ap (behind (type_words ty) 0) (at_type exported exports (types ++ more) e)
    ∙ behind_front (type_words ty) 0 types more t

type_is : (exported : Bool) (ty : TypeTree) (exports types more : List Token) →
    export_words exported ≡ kinds exports → type_words ty ≡ kinds types → placed_type ty (behind
    (export_words exported) 0 (exports ++ (types ++ more))) ≡ placed_type ty types
type_is exported ty exports types more e t =
    ap (placed_type ty) (at_type exported exports (types ++ more) e) ∙ type_before ty types more t

pub function_wrote : (strict exported : Bool) (ty : TypeTree) (name : Ident) (parameters : List
    Parameter) (frequency : Option Freq) (annotations : Option (List Annotation)) (body : Tree)
    (span : Span) (tokens : List Token) → ((types : List Token) → makes_material frequency
    (placed_type ty types) ≡ false) → IsName ty.name → (strict ≡ true → is_deferred ty.size ≡ false)
    → AllByRecursion (GoodParameter strict strict) parameters → AreAnnotations annotations → (strict
    ≡ true → PlainAnnotations annotations) → Levelled body → (strict ≡ true → NoneDeferred body) →
    write_declaration (function exported ty name parameters frequency annotations (Some body) span)
    ≡ kinds tokens → DeclarationWrote strict (placed_declaration (function exported ty name
    parameters frequency annotations (Some body) span) tokens) tokens
function_wrote strict exported ty name parameters frequency annotations body span tokens no_material
    is_name sized good fits plain level deferred is =
    by tokens (cut_typed exported ty name (write_parameters parameters ++ (frequency_words frequency
    ++ (write_annotations annotations ++ (mark_word (codes "=") ∷ (write body ++ mark_word (codes
    ";") ∷ []))))) tokens is)
  where
    Goal : List Token → Type 0
    Goal tokens = DeclarationWrote strict
        (placed_declaration (function exported ty name parameters frequency annotations (Some body)
        span) tokens) tokens

    fourth : (exports types : List Token) (named : Token) (owns fronts notes : List Token) (equals :
        Token) (more : List Token) → export_words exported ≡ kinds exports → type_words ty ≡ kinds
        types → named.kind ≡ ident_word name → write_parameters parameters ≡ kinds owns →
        frequency_words frequency ≡ kinds fronts → write_annotations annotations ≡ kinds notes →
        equals.kind ≡ mark_word (codes "=") → Last (write body) (mark_word (codes ";")) more → Goal
        (exports ++ (types ++ named ∷ (owns ++ (fronts ++ (notes ++ equals ∷ more)))))
    fourth exports types named owns fronts notes equals more e t n o f a q (last bodies semicolon b
        s) =
        subst (λ (made : Declaration). DeclarationWrote strict made whole) (sym (λ i. function
        exported (type_is exported ty exports types behind_types e t i) (placed_ident name (named_at
        i)) (placed_parameters parameters (drop 1 (named_at i))) frequency (placed_annotations
        annotations (at_annotations i)) (Some (placed body (at_body i))) (place_is i)))
        (function_tokens exported (first_at (placed_type ty types).span.at exports) (placed_type ty
        types) named equals semicolon name.text (placed_parameters parameters (owns ++ behind_owns))
        frequency (first_at 0 fronts) (placed_annotations annotations (notes ++ behind_notes))
        (last_end 0 notes) (placed body bodies) exports types owns fronts notes bodies (no_material
        types) (export_wrote (placed_type ty types).span.at exported exports e) ty_wrote n
        (parameters_wrote strict strict parameters owns behind_owns good o) (frequency_wrote 0
        frequency fronts f) (annotations_wrote strict 0 annotations notes behind_notes fits plain a)
        (record { is = q }) (wrote strict body bodies level deferred b) (record { is = s }))
      where
        behind_notes : List Token
        behind_notes = equals ∷ (bodies ++ semicolon ∷ [])

        behind_fronts : List Token
        behind_fronts = notes ++ behind_notes

        behind_owns : List Token
        behind_owns = fronts ++ behind_fronts

        behind_types : List Token
        behind_types = named ∷ (owns ++ behind_owns)

        whole : List Token
        whole = exports ++ (types ++ behind_types)

        ty_wrote : TypeWrote strict (placed_type ty types) types
        ty_wrote = type_wrote strict ty types is_name sized t

        named_at : behind (type_words ty) 0 (behind (export_words exported) 0 whole) ≡ behind_types
        named_at = at_name exported ty exports types behind_types e t

        at_frequency : behind (write_parameters parameters) 0
            (drop 1 (behind (type_words ty) 0 (behind (export_words exported) 0 whole))) ≡
            behind_owns
        at_frequency =
            ap (λ list. behind (write_parameters parameters) 0 (drop 1 list)) named_at
            ∙ behind_front (write_parameters parameters) 0 owns behind_owns o

        at_annotations : behind (frequency_words frequency) 0 (behind (write_parameters parameters)
            0 (drop 1 (behind (type_words ty) 0 (behind (export_words exported) 0 whole)))) ≡
            behind_fronts
        at_annotations =
            ap (behind (frequency_words frequency) 0) at_frequency
            ∙ behind_front (frequency_words frequency) 0 fronts behind_fronts f

        at_body : tokens_of (write body) (drop 1 (behind (write_annotations annotations) 0
            (behind (frequency_words frequency) 0 (behind (write_parameters parameters) 0 (drop 1
            (behind (type_words ty) 0 (behind (export_words exported) 0 whole))))))) ≡ bodies
        at_body =
            ap (λ list. tokens_of (write body) (drop 1 (behind (write_annotations annotations) 0
            list))) at_annotations ∙ (ap (λ list. tokens_of (write body) (drop 1 list))
            (behind_front (write_annotations annotations) 0 notes behind_notes a) ∙ front_of (write
            body) bodies (semicolon ∷ []) b)

        place_is : place_of whole ≡ from_to (first_at (placed_type ty types).span.at exports)
            semicolon.end
        place_is =
            typed_place ty exports types named (owns ++ behind_owns) semicolon.end t (type_some
            strict (placed_type ty types) types ty_wrote) (ends_behind owns behind_owns
            semicolon.end (ends_behind fronts behind_fronts semicolon.end (ends_behind notes
            behind_notes semicolon.end (λ end. last_end_append equals.end bodies (semicolon ∷
            [])))))

    third : (exports types : List Token) (named : Token) (owns fronts more : List Token) →
        export_words exported ≡ kinds exports → type_words ty ≡ kinds types → named.kind ≡
        ident_word name → write_parameters parameters ≡ kinds owns → frequency_words frequency ≡
        kinds fronts → Around (write_annotations annotations) (mark_word (codes "=")) (write body ++
        mark_word (codes ";") ∷ []) more → Goal (exports ++ (types ++ named ∷ (owns ++ (fronts ++
        more))))
    third exports types named owns fronts more e t n o f (around notes equals rest a q is) =
        fourth exports types named owns fronts notes equals rest e t n o f a q (cut_last is)

    second : (exports types : List Token) (named : Token) (owns more : List Token) →
        export_words exported ≡ kinds exports → type_words ty ≡ kinds types → named.kind ≡
        ident_word name → write_parameters parameters ≡ kinds owns → Halves (frequency_words
        frequency) (write_annotations annotations ++ (mark_word (codes "=") ∷ (write body ++
        mark_word (codes ";") ∷ []))) more → Goal (exports ++ (types ++ named ∷ (owns ++ more)))
    second exports types named owns more e t n o (halves fronts rest f is) =
        third exports types named owns fronts rest e t n o f (cut_at is)

    inner : (exports types : List Token) (named : Token) (more : List Token) →
        export_words exported ≡ kinds exports → type_words ty ≡ kinds types → named.kind ≡
        ident_word name → Halves (write_parameters parameters) (frequency_words frequency ++
        (write_annotations annotations ++ (mark_word (codes "=") ∷ (write body ++ mark_word (codes
        ";") ∷ [])))) more → Goal (exports ++ (types ++ named ∷ more))
    inner exports types named more e t n (halves owns rest o is) = second exports types named owns
        rest e t n o (cut is)

    by : (tokens : List Token) → Typed exported ty name (write_parameters parameters ++
        (frequency_words frequency ++ (write_annotations annotations ++ (mark_word (codes "=") ∷
        (write body ++ mark_word (codes ";") ∷ []))))) tokens → Goal tokens
    by tokens (typed exports types named rest e t n is) = inner exports types named rest e t n (cut
        is)

pub prototype_wrote : (strict exported : Bool) (ty : TypeTree) (name : Ident) (parameters : List
    Parameter) (frequency : Option Freq) (annotations : Option (List Annotation)) (span : Span)
    (tokens : List Token) → IsName ty.name → (strict ≡ true → is_deferred ty.size ≡ false) →
    AllByRecursion (GoodParameter false strict) parameters → AreAnnotations annotations → (strict ≡
    true → PlainAnnotations annotations) → write_declaration (function exported ty name parameters
    frequency annotations None span) ≡ kinds tokens → DeclarationWrote strict (placed_declaration
    (function exported ty name parameters frequency annotations None span) tokens) tokens
prototype_wrote strict exported ty name parameters frequency annotations span tokens is_name sized
    good fits plain is =
    by tokens (cut_typed exported ty name (write_parameters parameters ++ (frequency_words frequency
    ++ (write_annotations annotations ++ mark_word (codes ";") ∷ []))) tokens is)
  where
    Goal : List Token → Type 0
    Goal tokens = DeclarationWrote strict
        (placed_declaration (function exported ty name parameters frequency annotations None span)
        tokens) tokens

    third : (exports types : List Token) (named : Token) (owns fronts more : List Token) →
        export_words exported ≡ kinds exports → type_words ty ≡ kinds types → named.kind ≡
        ident_word name → write_parameters parameters ≡ kinds owns → frequency_words frequency ≡
        kinds fronts → Last (write_annotations annotations) (mark_word (codes ";")) more → Goal
        (exports ++ (types ++ named ∷ (owns ++ (fronts ++ more))))
    third exports types named owns fronts more e t n o f (last notes semicolon a s) =
        subst (λ (made : Declaration). DeclarationWrote strict made whole) (sym (λ i. function
        exported (type_is exported ty exports types behind_types e t i) (placed_ident name (named_at
        i)) (placed_parameters parameters (drop 1 (named_at i))) frequency (placed_annotations
        annotations (at_annotations i)) None (place_is i))) (prototype_tokens exported (first_at
        (placed_type ty types).span.at exports) (placed_type ty types) named semicolon name.text
        (placed_parameters parameters (owns ++ behind_owns)) frequency (first_at 0 fronts)
        (placed_annotations annotations behind_fronts) (last_end 0 notes) exports types owns fronts
        notes (export_wrote (placed_type ty types).span.at exported exports e) ty_wrote n
        (parameters_wrote false strict parameters owns behind_owns good o) (frequency_wrote 0
        frequency fronts f) (annotations_wrote strict 0 annotations notes (semicolon ∷ []) fits
        plain a) (record { is = s }))
      where
        behind_fronts : List Token
        behind_fronts = notes ++ semicolon ∷ []

        behind_owns : List Token
        behind_owns = fronts ++ behind_fronts

        behind_types : List Token
        behind_types = named ∷ (owns ++ behind_owns)

        whole : List Token
        whole = exports ++ (types ++ behind_types)

        ty_wrote : TypeWrote strict (placed_type ty types) types
        ty_wrote = type_wrote strict ty types is_name sized t

        named_at : behind (type_words ty) 0 (behind (export_words exported) 0 whole) ≡ behind_types
        named_at = at_name exported ty exports types behind_types e t

        at_frequency : behind (write_parameters parameters) 0
            (drop 1 (behind (type_words ty) 0 (behind (export_words exported) 0 whole))) ≡
            behind_owns
        at_frequency =
            ap (λ list. behind (write_parameters parameters) 0 (drop 1 list)) named_at
            ∙ behind_front (write_parameters parameters) 0 owns behind_owns o

        at_annotations : behind (frequency_words frequency) 0 (behind (write_parameters parameters)
            0 (drop 1 (behind (type_words ty) 0 (behind (export_words exported) 0 whole)))) ≡
            behind_fronts
        at_annotations =
            ap (behind (frequency_words frequency) 0) at_frequency
            ∙ behind_front (frequency_words frequency) 0 fronts behind_fronts f

        place_is : place_of whole ≡ from_to (first_at (placed_type ty types).span.at exports)
            semicolon.end
        place_is =
            typed_place ty exports types named (owns ++ behind_owns) semicolon.end t (type_some
            strict (placed_type ty types) types ty_wrote) (ends_behind owns behind_owns
            semicolon.end (ends_behind fronts behind_fronts semicolon.end (ends_behind notes
            (semicolon ∷ []) semicolon.end (λ end. refl))))

    second : (exports types : List Token) (named : Token) (owns more : List Token) →
        export_words exported ≡ kinds exports → type_words ty ≡ kinds types → named.kind ≡
        ident_word name → write_parameters parameters ≡ kinds owns → Halves (frequency_words
        frequency) (write_annotations annotations ++ mark_word (codes ";") ∷ []) more → Goal
        (exports ++ (types ++ named ∷ (owns ++ more)))
    second exports types named owns more e t n o (halves fronts rest f is) =
        third exports types named owns fronts rest e t n o f (cut_last is)

    inner : (exports types : List Token) (named : Token) (more : List Token) →
        export_words exported ≡ kinds exports → type_words ty ≡ kinds types → named.kind ≡
        ident_word name → Halves (write_parameters parameters) (frequency_words frequency ++
        (write_annotations annotations ++ mark_word (codes ";") ∷ [])) more → Goal (exports ++
        (types ++ named ∷ more))
    inner exports types named more e t n (halves owns rest o is) = second exports types named owns
        rest e t n o (cut is)

    by : (tokens : List Token) → Typed exported ty name (write_parameters parameters ++
        (frequency_words frequency ++ (write_annotations annotations ++ mark_word (codes ";") ∷
        []))) tokens → Goal tokens
    by tokens (typed exports types named rest e t n is) = inner exports types named rest e t n (cut
        is)

-- a call and what closes a variant
called : (base : Name) (arguments : Arguments) →
    name_words base ++ (mark_word (codes "(") ∷ (write_arguments arguments ++ mark_word (codes ")")
    ∷ mark_word (codes ";") ∷ [])) ≡ (name_words base ++ (mark_word (codes "(") ∷ (write_arguments
    arguments ++ mark_word (codes ")") ∷ []))) ++ mark_word (codes ";") ∷ []
called base arguments = sym (append_assoc (name_words base)
    (mark_word (codes "(") ∷ (write_arguments arguments ++ mark_word (codes ")") ∷ [])) (mark_word
    (codes ";") ∷ []) ∙ ap (λ more. name_words base ++ mark_word (codes "(") ∷ more) (append_assoc
    (write_arguments arguments) (mark_word (codes ")") ∷ []) (mark_word (codes ";") ∷ [])))

-- a call's parts among the first tokens
call_long : (base : Name) (arguments : Arguments) (span : Span) (bases : List Token) →
    write (call base arguments span) ≡ kinds bases →
    length (name_words base) + (2 + length (write_arguments arguments)) ≤ length bases
call_long base arguments span bases is = omega (
  arith,
  length_kinds (write (call base arguments span)) bases is,
  length-append (name_words base) (mark_word (codes "(") ∷ (write_arguments arguments ++ mark_word
      (codes ")") ∷ [])),
  length-append (write_arguments arguments) (mark_word (codes ")") ∷ []),
)

base_before : (base : Name) (arguments : Arguments) (span : Span) (bases rest : List Token) →
    write (call base arguments span) ≡ kinds bases → placed_name base (bases ++ rest) ≡ placed_name
    base bases
base_before base arguments span bases rest is =
    name_front base bases rest (omega (arith, call_long base arguments span bases is))

arguments_before : (base : Name) (arguments : Arguments) (span : Span) (bases rest : List Token) →
    write (call base arguments span) ≡ kinds bases →
    placed_arguments arguments (behind (name_words base) 1 (bases ++ rest))
    ≡ placed_arguments arguments (behind (name_words base) 1 bases)
arguments_before base arguments span bases rest is =
    let n = length (name_words base) + 1 in
    let long = call_long base arguments span bases is in
    ap (placed_arguments arguments) (drop-append-le n bases rest (omega (arith, long)))
    ∙ arguments_front arguments (drop n bases) rest (omega (arith, long, length-drop n bases))

pub variant_wrote : (strict exported : Bool) (ty : TypeTree) (name : Ident) (annotations : Option
    (List Annotation)) (base : Name) (arguments : Arguments) (span : Span) (tokens : List Token) →
    IsName ty.name → (strict ≡ true → is_deferred ty.size ≡ false) → AreAnnotations annotations →
    (strict ≡ true → PlainAnnotations annotations) → Levelled (call base arguments span) → (strict ≡
    true → NoneDeferred (call base arguments span)) → write_declaration (variant exported ty name
    annotations base arguments span) ≡ kinds tokens → DeclarationWrote strict (placed_declaration
    (variant exported ty name annotations base arguments span) tokens) tokens
variant_wrote strict exported ty name annotations base arguments span tokens is_name sized fits
    plain level deferred is =
    by tokens (cut_typed exported ty name (mark_word (codes "(") ∷ mark_word (codes "*") ∷ mark_word
    (codes ")") ∷ (write_annotations annotations ++ base_words)) tokens is)
  where
    base_words : List Kind
    base_words = mark_word (codes "=") ∷ (name_words base ++ (mark_word (codes "(") ∷
        (write_arguments arguments ++ mark_word (codes ")") ∷ mark_word (codes ";") ∷ [])))

    Goal : List Token → Type 0
    Goal tokens = DeclarationWrote strict
        (placed_declaration (variant exported ty name annotations base arguments span) tokens)
        tokens

    third : (exports types : List Token) (named start star close : Token) (notes : List Token)
        (equals : Token) (more : List Token) → export_words exported ≡ kinds exports → type_words ty
        ≡ kinds types → named.kind ≡ ident_word name → start.kind ≡ mark_word (codes "(") →
        star.kind ≡ mark_word (codes "*") → close.kind ≡ mark_word (codes ")") → write_annotations
        annotations ≡ kinds notes → equals.kind ≡ mark_word (codes "=") → Last (write (call base
        arguments span)) (mark_word (codes ";")) more → Goal (exports ++ (types ++ named ∷ start ∷
        star ∷ close ∷ (notes ++ equals ∷ more)))
    third exports types named start star close notes equals more e t n o r c a q (last bases
        semicolon b s) =
        subst (λ (made : Declaration). DeclarationWrote strict made whole) (sym (λ i. variant
        exported (type_is exported ty exports types behind_types e t i) (placed_ident name (named_at
        i)) (placed_annotations annotations (drop 4 (named_at i))) (base_is i) (arguments_are i)
        (place_is i))) (variant_tokens exported (first_at (placed_type ty types).span.at exports)
        (placed_type ty types) named start star close equals semicolon name.text (placed_annotations
        annotations (notes ++ behind_notes)) (last_end 0 notes) (placed_name base bases)
        (placed_arguments arguments (behind (name_words base) 1 bases)) (place_of bases) exports
        types notes bases (export_wrote (placed_type ty types).span.at exported exports e) ty_wrote
        n (record { is = o }) (record { is = r }) (record { is = c }) (annotations_wrote strict 0
        annotations notes behind_notes fits plain a) (record { is = q }) (wrote strict (call base
        arguments span) bases level deferred b) (record { is = s }))
      where
        behind_notes : List Token
        behind_notes = equals ∷ (bases ++ semicolon ∷ [])

        behind_types : List Token
        behind_types = named ∷ start ∷ star ∷ close ∷ (notes ++ behind_notes)

        whole : List Token
        whole = exports ++ (types ++ behind_types)

        ty_wrote : TypeWrote strict (placed_type ty types) types
        ty_wrote = type_wrote strict ty types is_name sized t

        named_at : behind (type_words ty) 0 (behind (export_words exported) 0 whole) ≡ behind_types
        named_at = at_name exported ty exports types behind_types e t

        at_base : behind (write_annotations annotations) 1
            (drop 4 (behind (type_words ty) 0 (behind (export_words exported) 0 whole))) ≡ bases ++
            semicolon ∷ []
        at_base =
            ap (λ list. behind (write_annotations annotations) 1 (drop 4 list)) named_at
            ∙ behind_front (write_annotations annotations) 1 notes behind_notes a

        base_is : placed_name base (behind (write_annotations annotations) 1
            (drop 4 (behind (type_words ty) 0 (behind (export_words exported) 0 whole)))) ≡
            placed_name base bases
        base_is = ap (placed_name base) at_base ∙ base_before base arguments span bases (semicolon ∷
            []) b

        arguments_are : placed_arguments arguments (behind (name_words base) 1 (behind
            (write_annotations annotations) 1 (drop 4 (behind (type_words ty) 0 (behind
            (export_words exported) 0 whole))))) ≡ placed_arguments arguments (behind (name_words
            base) 1 bases)
        arguments_are =
            ap (λ list. placed_arguments arguments (behind (name_words base) 1 list)) at_base
            ∙ arguments_before base arguments span bases (semicolon ∷ []) b

        place_is : place_of whole ≡ from_to (first_at (placed_type ty types).span.at exports)
            semicolon.end
        place_is =
            typed_place ty exports types named (start ∷ star ∷ close ∷ (notes ++ behind_notes))
            semicolon.end t (type_some strict (placed_type ty types) types ty_wrote) (λ end.
            ends_behind notes behind_notes semicolon.end (λ end. last_end_append equals.end bases
            (semicolon ∷ [])) close.end)

    second : (exports types : List Token) (named start star close : Token) (more : List Token) →
        export_words exported ≡ kinds exports → type_words ty ≡ kinds types → named.kind ≡
        ident_word name → start.kind ≡ mark_word (codes "(") → star.kind ≡ mark_word (codes "*") →
        close.kind ≡ mark_word (codes ")") → Around (write_annotations annotations) (mark_word
        (codes "=")) (name_words base ++ (mark_word (codes "(") ∷ (write_arguments arguments ++
        mark_word (codes ")") ∷ mark_word (codes ";") ∷ []))) more → Goal (exports ++ (types ++
        named ∷ start ∷ star ∷ close ∷ more))
    second exports types named start star close more e t n o r c (around notes equals rest a q is) =
        third exports types named start star close notes equals rest e t n o r c a q
        (cut_last (sym (called base arguments) ∙ is))

    inner : (exports types : List Token) (named : Token) (more : List Token) →
        export_words exported ≡ kinds exports → type_words ty ≡ kinds types → named.kind ≡
        ident_word name → mark_word (codes "(") ∷ mark_word (codes "*") ∷ mark_word (codes ")") ∷
        (write_annotations annotations ++ base_words) ≡ kinds more → Goal (exports ++ (types ++
        named ∷ more))
    inner exports types named (start ∷ star ∷ close ∷ more) e t n is =
        second exports types named start star close more e t n (head_is is) (head_is (tail_is is))
        (head_is (tail_is (tail_is is))) (cut_at (tail_is (tail_is (tail_is is))))
    inner exports types named _ e t n is = absurd (omega (arith, ap length is))

    by : (tokens : List Token) → Typed exported ty name (mark_word (codes "(") ∷ mark_word (codes
        "*") ∷ mark_word (codes ")") ∷ (write_annotations annotations ++ base_words)) tokens → Goal
        tokens
    by tokens (typed exports types named rest e t n is) = inner exports types named rest e t n is

-- Declarations that begin with a word are written part by part.
use Rattle.std.proofs.Common.{◌≡◌, ◌∙◌, sym, ap, subst, refl, ℕ, Bool, true, false, List, [], ◌∷◌}
use Rattle.std.proofs.Common.{◌++◌, drop, codes, Option}
use Rattle.std.specs.List.{AllByRecursion}
use Rattle.mdl_lexer.specs.Kinds.{mark_word, name_word}
use Rattle.mdl_lexer.specs.declared.token.Kind.{Kind}
use Rattle.mdl_lexer.specs.declared.token.Token.{Token}
use Rattle.mdl_syntax.specs.declared.names.Span.{Span}
use Rattle.mdl_syntax.specs.declared.names.Ident.{Ident}
use Rattle.mdl_syntax.specs.Trees.{Tree}
use Rattle.mdl_syntax.specs.Words.{ident_word}
use Rattle.mdl_syntax.specs.Written.{write}
use Rattle.mdl_syntax.specs.Placed.{last_end, place_of, tokens_of, behind, placed, placed_ident}
use Rattle.mdl_syntax.specs.Levelled.{Levelled, NoneDeferred}
use Rattle.mdl_syntax.specs.Modules.{Annotation, Parameter, EnumValue, Declaration, material}
use Rattle.mdl_syntax.specs.Modules.{structure, enumeration, annotation}
use Rattle.mdl_syntax.specs.WrittenModules.{write_several, write_each, write_annotations}
use Rattle.mdl_syntax.specs.WrittenModules.{write_parameters, write_field, write_enum_value}
use Rattle.mdl_syntax.specs.WrittenModules.{export_words, write_declaration}
use Rattle.mdl_syntax.specs.PlacedModules.{placed_each, placed_annotations, placed_parameter}
use Rattle.mdl_syntax.specs.PlacedModules.{placed_parameters, placed_enum_value, placed_declaration}
use Rattle.mdl_syntax.specs.LevelledModules.{AreAnnotations}
use Rattle.mdl_syntax.specs.AcceptedModules.{PlainAnnotations}
use Rattle.expression_grammar.specs.inside.Machine.{from_to}
use Rattle.expression_grammar.specs.Readings.{kinds}
use Rattle.module_grammar.specs.inside.WroteModules.{FieldWrote, EnumValueWrote, DeclarationWrote}
use Rattle.module_grammar.specs.inside.WroteModules.{material_tokens, structure_tokens}
use Rattle.module_grammar.specs.inside.WroteModules.{enumeration_tokens, declared_annotation_tokens}
use Rattle.expression_grammar.proofs.CutLaws.{First, first, cut_first, Around, around, cut_at, Halves}
use Rattle.expression_grammar.proofs.CutLaws.{halves, cut, Last, last, cut_last, NoTokens, no_tokens, none}
use Rattle.expression_grammar.proofs.WroteLaws.{wrote}
use Rattle.expression_grammar.proofs.KindLaws.{front_of, behind_front, last_end_append, not_empty_append}
use Rattle.module_grammar.proofs.ModuleWroteLists.{several_wrote, each_wrote, still_some}
use Rattle.module_grammar.proofs.ModuleWroteParts.{first_at, EndsAt, ends_behind, begins, place_ends}
use Rattle.module_grammar.proofs.ModuleWroteParts.{export_wrote, annotations_wrote}
use Rattle.module_grammar.proofs.ModuleWroteParameters.{GoodParameter, GoodValue, parameters_wrote}
use Rattle.module_grammar.proofs.ModuleWroteParameters.{field_wrote, enum_value_wrote}

-- the front of a declaration: `export`, a word and its name
data Worded (exported : Bool) (kin : Kind) (name : Ident) (more : List Kind) : List Token → Type 0
  where
    worded : (exports : List Token) (word named : Token) (rest : List Token) → export_words exported
        ≡ kinds exports → word.kind ≡ kin → named.kind ≡ ident_word name → more ≡ kinds rest →
        Worded exported kin name more (exports ++ word ∷ named ∷ rest)

cut_worded : (exported : Bool) (kin : Kind) (name : Ident) (more : List Kind) (tokens : List Token)
    → export_words exported ++ (kin ∷ ident_word name ∷ more) ≡ kinds tokens → Worded exported kin
    name more tokens
cut_worded exported kin name more tokens is = by tokens (cut_at is)
  where
    inner : (exports : List Token) (word : Token) (rest : List Token) → export_words exported ≡
        kinds exports → word.kind ≡ kin → First (ident_word name) more rest → Worded exported kin
        name more (exports ++ word ∷ rest)
    inner exports word rest e w (first named others n is) = worded exports word named others e w n
        is

    by : (tokens : List Token) → Around (export_words exported) kin (ident_word name ∷ more) tokens
        → Worded exported kin name more tokens
    by tokens (around exports word rest e w is) = inner exports word rest e w (cut_first is)

worded_place : (exports : List Token) (word named : Token) (rest : List Token) (close : ℕ) → EndsAt
    rest close → place_of (exports ++ word ∷ named ∷ rest) ≡ from_to (first_at word.at exports)
    close
worded_place exports word named rest close ends =
    place_ends (exports ++ word ∷ named ∷ rest) (first_at word.at exports) close
    (not_empty_append exports word (named ∷ rest)) (begins exports (word ∷ named ∷ rest))
    (ends_behind exports (word ∷ named ∷ rest) close (λ end. ends named.end))

pub material_wrote : (strict exported : Bool) (name : Ident) (parameters : List Parameter)
    (annotations : Option (List Annotation)) (body : Tree) (span : Span) (tokens : List Token) →
    AllByRecursion (GoodParameter strict strict) parameters → AreAnnotations annotations → (strict ≡
    true → PlainAnnotations annotations) → Levelled body → (strict ≡ true → NoneDeferred body) →
    write_declaration (material exported name parameters annotations body span) ≡ kinds tokens →
    DeclarationWrote strict (placed_declaration (material exported name parameters annotations body
    span) tokens) tokens
material_wrote strict exported name parameters annotations body span tokens good fits plain level
    deferred is =
    by tokens (cut_worded exported (name_word (codes "material")) name (write_parameters parameters
    ++ (write_annotations annotations ++ (mark_word (codes "=") ∷ (write body ++ mark_word (codes
    ";") ∷ [])))) tokens is)
  where
    Goal : List Token → Type 0
    Goal tokens = DeclarationWrote strict
        (placed_declaration (material exported name parameters annotations body span) tokens) tokens

    third : (exports : List Token) (word named : Token) (owns notes : List Token) (equals : Token)
        (more : List Token) → export_words exported ≡ kinds exports → word.kind ≡ name_word (codes
        "material") → named.kind ≡ ident_word name → write_parameters parameters ≡ kinds owns →
        write_annotations annotations ≡ kinds notes → equals.kind ≡ mark_word (codes "=") → Last
        (write body) (mark_word (codes ";")) more → Goal (exports ++ word ∷ named ∷ (owns ++ (notes
        ++ equals ∷ more)))
    third exports word named owns notes equals more e w n o a q (last bodies semicolon b s) =
        subst (λ (made : Declaration). DeclarationWrote strict made whole) (sym (λ i. material
        exported (placed_ident name (at_name i)) (placed_parameters parameters (drop 1 (at_name i)))
        (placed_annotations annotations (at_annotations i)) (placed body (at_body i)) (place_is i)))
        (material_tokens exported (first_at word.at exports) word named equals semicolon name.text
        (placed_parameters parameters (owns ++ behind_owns)) (placed_annotations annotations (notes
        ++ behind_notes)) (last_end 0 notes) (placed body bodies) exports owns notes bodies
        (export_wrote word.at exported exports e) (record { is = w }) n (parameters_wrote strict
        strict parameters owns behind_owns good o) (annotations_wrote strict 0 annotations notes
        behind_notes fits plain a) (record { is = q }) (wrote strict body bodies level deferred b)
        (record { is = s }))
      where
        behind_notes : List Token
        behind_notes = equals ∷ (bodies ++ semicolon ∷ [])

        behind_owns : List Token
        behind_owns = notes ++ behind_notes

        whole : List Token
        whole = exports ++ word ∷ named ∷ (owns ++ behind_owns)

        at_name : behind (export_words exported) 1 whole ≡ named ∷ (owns ++ behind_owns)
        at_name = behind_front (export_words exported) 1 exports (word ∷ named ∷ (owns ++
            behind_owns)) e

        at_annotations : behind (write_parameters parameters) 0 (drop 1 (behind (export_words
            exported) 1 whole)) ≡ behind_owns
        at_annotations =
            ap (λ list. behind (write_parameters parameters) 0 (drop 1 list)) at_name
            ∙ behind_front (write_parameters parameters) 0 owns behind_owns o

        at_body : tokens_of (write body) (behind (write_annotations annotations) 1
            (behind (write_parameters parameters) 0 (drop 1 (behind (export_words exported) 1
            whole)))) ≡ bodies
        at_body =
            ap (λ list. tokens_of (write body) (behind (write_annotations annotations) 1 list))
            at_annotations ∙ (ap (tokens_of (write body)) (behind_front (write_annotations
            annotations) 1 notes behind_notes a) ∙ front_of (write body) bodies (semicolon ∷ []) b)

        place_is : place_of whole ≡ from_to (first_at word.at exports) semicolon.end
        place_is =
            worded_place exports word named (owns ++ behind_owns) semicolon.end (ends_behind owns
            behind_owns semicolon.end (ends_behind notes behind_notes semicolon.end (λ end.
            last_end_append equals.end bodies (semicolon ∷ []))))

    second : (exports : List Token) (word named : Token) (owns more : List Token) →
        export_words exported ≡ kinds exports → word.kind ≡ name_word (codes "material") →
        named.kind ≡ ident_word name → write_parameters parameters ≡ kinds owns → Around
        (write_annotations annotations) (mark_word (codes "=")) (write body ++ mark_word (codes ";")
        ∷ []) more → Goal (exports ++ word ∷ named ∷ (owns ++ more))
    second exports word named owns more e w n o (around notes equals rest a q is) =
        third exports word named owns notes equals rest e w n o a q (cut_last is)

    inner : (exports : List Token) (word named : Token) (more : List Token) →
        export_words exported ≡ kinds exports → word.kind ≡ name_word (codes "material") →
        named.kind ≡ ident_word name → Halves (write_parameters parameters) (write_annotations
        annotations ++ (mark_word (codes "=") ∷ (write body ++ mark_word (codes ";") ∷ []))) more →
        Goal (exports ++ word ∷ named ∷ more)
    inner exports word named more e w n (halves owns rest o is) =
        second exports word named owns rest e w n o (cut_at is)

    by : (tokens : List Token) → Worded exported (name_word (codes "material")) name
        (write_parameters parameters ++ (write_annotations annotations ++ (mark_word (codes "=") ∷
        (write body ++ mark_word (codes ";") ∷ [])))) tokens → Goal tokens
    by tokens (worded exports word named rest e w n is) = inner exports word named rest e w n (cut
        is)

pub annotation_declaration_wrote : (strict exported : Bool) (name : Ident) (parameters : List
    Parameter) (annotations : Option (List Annotation)) (span : Span) (tokens : List Token) →
    AllByRecursion (GoodParameter false strict) parameters → AreAnnotations annotations → (strict ≡
    true → PlainAnnotations annotations) → write_declaration (annotation exported name parameters
    annotations span) ≡ kinds tokens → DeclarationWrote strict (placed_declaration (annotation
    exported name parameters annotations span) tokens) tokens
annotation_declaration_wrote strict exported name parameters annotations span tokens good fits plain
    is =
    by tokens (cut_worded exported (name_word (codes "annotation")) name (write_parameters
    parameters ++ (write_annotations annotations ++ mark_word (codes ";") ∷ [])) tokens is)
  where
    Goal : List Token → Type 0
    Goal tokens = DeclarationWrote strict
        (placed_declaration (annotation exported name parameters annotations span) tokens) tokens

    second : (exports : List Token) (word named : Token) (owns more : List Token) →
        export_words exported ≡ kinds exports → word.kind ≡ name_word (codes "annotation") →
        named.kind ≡ ident_word name → write_parameters parameters ≡ kinds owns →
        Last (write_annotations annotations) (mark_word (codes ";")) more →
        Goal (exports ++ word ∷ named ∷ (owns ++ more))
    second exports word named owns more e w n o (last notes semicolon a s) =
        subst (λ (made : Declaration). DeclarationWrote strict made whole) (sym (λ i. annotation
        exported (placed_ident name (at_name i)) (placed_parameters parameters (drop 1 (at_name i)))
        (placed_annotations annotations (at_annotations i)) (place_is i)))
        (declared_annotation_tokens exported (first_at word.at exports) word named semicolon
        name.text (placed_parameters parameters (owns ++ behind_owns)) (placed_annotations
        annotations behind_owns) (last_end 0 notes) exports owns notes (export_wrote word.at
        exported exports e) (record { is = w }) n (parameters_wrote false strict parameters owns
        behind_owns good o) (annotations_wrote strict 0 annotations notes (semicolon ∷ []) fits
        plain a) (record { is = s }))
      where
        behind_owns : List Token
        behind_owns = notes ++ semicolon ∷ []

        whole : List Token
        whole = exports ++ word ∷ named ∷ (owns ++ behind_owns)

        at_name : behind (export_words exported) 1 whole ≡ named ∷ (owns ++ behind_owns)
        at_name = behind_front (export_words exported) 1 exports (word ∷ named ∷ (owns ++
            behind_owns)) e

        at_annotations : behind (write_parameters parameters) 0 (drop 1 (behind (export_words
            exported) 1 whole)) ≡ behind_owns
        at_annotations =
            ap (λ list. behind (write_parameters parameters) 0 (drop 1 list)) at_name
            ∙ behind_front (write_parameters parameters) 0 owns behind_owns o

        place_is : place_of whole ≡ from_to (first_at word.at exports) semicolon.end
        place_is =
            worded_place exports word named (owns ++ behind_owns) semicolon.end (ends_behind owns
            behind_owns semicolon.end (ends_behind notes (semicolon ∷ []) semicolon.end (λ end.
            refl)))

    inner : (exports : List Token) (word named : Token) (more : List Token) →
        export_words exported ≡ kinds exports → word.kind ≡ name_word (codes "annotation") →
        named.kind ≡ ident_word name → Halves (write_parameters parameters) (write_annotations
        annotations ++ mark_word (codes ";") ∷ []) more → Goal (exports ++ word ∷ named ∷ more)
    inner exports word named more e w n (halves owns rest o is) =
        second exports word named owns rest e w n o (cut_last is)

    by : (tokens : List Token) → Worded exported (name_word (codes "annotation")) name
        (write_parameters parameters ++ (write_annotations annotations ++ mark_word (codes ";") ∷
        [])) tokens → Goal tokens
    by tokens (worded exports word named rest e w n is) = inner exports word named rest e w n (cut
        is)

-- what is within braces, and `}` and `;`
data Braced (inside : List Kind) : List Token → Type 0 where
  braced : (own : List Token) (close semicolon : Token) → inside ≡ kinds own → close.kind ≡
      mark_word (codes "}") → semicolon.kind ≡ mark_word (codes ";") → Braced inside (own ++ close ∷
      semicolon ∷ [])

cut_braced : (inside : List Kind) (tokens : List Token) →
    inside ++ mark_word (codes "}") ∷ mark_word (codes ";") ∷ [] ≡ kinds tokens → Braced inside
    tokens
cut_braced inside tokens is = by tokens (cut_at is)
  where
    third : (own : List Token) (close semicolon : Token) (rest : List Token) → inside ≡ kinds own →
        close.kind ≡ mark_word (codes "}") → semicolon.kind ≡ mark_word (codes ";") → NoTokens rest
        → Braced inside (own ++ close ∷ semicolon ∷ rest)
    third own close semicolon rest o c s no_tokens = braced own close semicolon o c s

    inner : (own : List Token) (close : Token) (rest : List Token) → inside ≡ kinds own →
        close.kind ≡ mark_word (codes "}") → First (mark_word (codes ";")) [] rest →
        Braced inside (own ++ close ∷ rest)
    inner own close rest o c (first semicolon others s is) = third own close semicolon others o c s
        (none is)

    by : (tokens : List Token) → Around inside (mark_word (codes "}")) (mark_word (codes ";") ∷ [])
        tokens → Braced inside tokens
    by tokens (around own close rest o c is) = inner own close rest o c (cut_first is)

pub structure_wrote : (strict exported : Bool) (name : Ident) (annotations : Option (List
    Annotation)) (fields : List Parameter) (span : Span) (tokens : List Token) → AllByRecursion
    (GoodParameter strict strict) fields → AreAnnotations annotations → (strict ≡ true →
    PlainAnnotations annotations) → write_declaration (structure exported name annotations fields
    span) ≡ kinds tokens → DeclarationWrote strict (placed_declaration (structure exported name
    annotations fields span) tokens) tokens
structure_wrote strict exported name annotations fields span tokens good fits plain is =
    by tokens (cut_worded exported (name_word (codes "struct")) name (write_annotations annotations
    ++ (mark_word (codes "{") ∷ (write_each write_field fields ++ mark_word (codes "}") ∷ mark_word
    (codes ";") ∷ []))) tokens is)
  where
    Goal : List Token → Type 0
    Goal tokens = DeclarationWrote strict
        (placed_declaration (structure exported name annotations fields span) tokens) tokens

    second : (exports : List Token) (word named : Token) (notes : List Token) (brace : Token) (more
        : List Token) → export_words exported ≡ kinds exports → word.kind ≡ name_word (codes
        "struct") → named.kind ≡ ident_word name → write_annotations annotations ≡ kinds notes →
        brace.kind ≡ mark_word (codes "{") → Braced (write_each write_field fields) more → Goal
        (exports ++ word ∷ named ∷ (notes ++ brace ∷ more))
    second exports word named notes brace more e w n a b (braced own close semicolon o c s) =
        subst (λ (made : Declaration). DeclarationWrote strict made whole) (sym (λ i. structure
        exported (placed_ident name (at_name i)) (placed_annotations annotations (drop 1 (at_name
        i))) (placed_each write_field placed_parameter 0 fields (at_fields i)) (place_is i)))
        (structure_tokens exported (first_at word.at exports) word named brace close semicolon
        name.text (placed_annotations annotations (notes ++ behind_notes)) (last_end 0 notes)
        (placed_each write_field placed_parameter 0 fields (own ++ close ∷ semicolon ∷ [])) exports
        notes own (export_wrote word.at exported exports e) (record { is = w }) n (annotations_wrote
        strict 0 annotations notes behind_notes fits plain a) (record { is = b }) (each_wrote
        (FieldWrote strict) write_field placed_parameter (GoodParameter strict strict) (field_wrote
        strict) fields own (close ∷ semicolon ∷ []) good o) (record { is = c }) (record { is = s }))
      where
        behind_notes : List Token
        behind_notes = brace ∷ (own ++ close ∷ semicolon ∷ [])

        whole : List Token
        whole = exports ++ word ∷ named ∷ (notes ++ behind_notes)

        at_name : behind (export_words exported) 1 whole ≡ named ∷ (notes ++ behind_notes)
        at_name = behind_front (export_words exported) 1 exports (word ∷ named ∷ (notes ++
            behind_notes)) e

        at_fields : behind (write_annotations annotations) 1 (drop 1 (behind (export_words exported)
            1 whole)) ≡ own ++ close ∷ semicolon ∷ []
        at_fields =
            ap (λ list. behind (write_annotations annotations) 1 (drop 1 list)) at_name
            ∙ behind_front (write_annotations annotations) 1 notes behind_notes a

        place_is : place_of whole ≡ from_to (first_at word.at exports) semicolon.end
        place_is =
            worded_place exports word named (notes ++ behind_notes) semicolon.end
            (ends_behind notes behind_notes semicolon.end
            (λ end. last_end_append brace.end own (close ∷ semicolon ∷ [])))

    inner : (exports : List Token) (word named : Token) (more : List Token) →
        export_words exported ≡ kinds exports → word.kind ≡ name_word (codes "struct") → named.kind
        ≡ ident_word name → Around (write_annotations annotations) (mark_word (codes "{"))
        (write_each write_field fields ++ mark_word (codes "}") ∷ mark_word (codes ";") ∷ []) more →
        Goal (exports ++ word ∷ named ∷ more)
    inner exports word named more e w n (around notes brace rest a b is) =
        second exports word named notes brace rest e w n a b (cut_braced (write_each write_field
        fields) rest is)

    by : (tokens : List Token) → Worded exported (name_word (codes "struct")) name
        (write_annotations annotations ++ (mark_word (codes "{") ∷ (write_each write_field fields ++
        mark_word (codes "}") ∷ mark_word (codes ";") ∷ []))) tokens → Goal tokens
    by tokens (worded exports word named rest e w n is) = inner exports word named rest e w n
        (cut_at is)

pub enumeration_wrote : (strict exported : Bool) (name : Ident) (annotations : Option (List
    Annotation)) (values : List EnumValue) (span : Span) (tokens : List Token) → (values ≡ [] → ⊥) →
    AllByRecursion (GoodValue strict) values → AreAnnotations annotations → (strict ≡ true →
    PlainAnnotations annotations) → write_declaration (enumeration exported name annotations values
    span) ≡ kinds tokens → DeclarationWrote strict (placed_declaration (enumeration exported name
    annotations values span) tokens) tokens
enumeration_wrote strict exported name annotations values span tokens some good fits plain is =
    by tokens (cut_worded exported (name_word (codes "enum")) name (write_annotations annotations ++
    (mark_word (codes "{") ∷ (write_several write_enum_value values ++ mark_word (codes "}") ∷
    mark_word (codes ";") ∷ []))) tokens is)
  where
    Goal : List Token → Type 0
    Goal tokens = DeclarationWrote strict
        (placed_declaration (enumeration exported name annotations values span) tokens) tokens

    second : (exports : List Token) (word named : Token) (notes : List Token) (brace : Token) (more
        : List Token) → export_words exported ≡ kinds exports → word.kind ≡ name_word (codes "enum")
        → named.kind ≡ ident_word name → write_annotations annotations ≡ kinds notes → brace.kind ≡
        mark_word (codes "{") → Braced (write_several write_enum_value values) more → Goal (exports
        ++ word ∷ named ∷ (notes ++ brace ∷ more))
    second exports word named notes brace more e w n a b (braced own close semicolon o c s) =
        subst (λ (made : Declaration). DeclarationWrote strict made whole) (sym (λ i. enumeration
        exported (placed_ident name (at_name i)) (placed_annotations annotations (drop 1 (at_name
        i))) (placed_each write_enum_value placed_enum_value 1 values (at_values i)) (place_is i)))
        (enumeration_tokens exported (first_at word.at exports) word named brace close semicolon
        name.text (placed_annotations annotations (notes ++ behind_notes)) (last_end 0 notes)
        (placed_each write_enum_value placed_enum_value 1 values (own ++ close ∷ semicolon ∷ []))
        exports notes own (export_wrote word.at exported exports e) (record { is = w }) n
        (annotations_wrote strict 0 annotations notes behind_notes fits plain a) (record { is = b })
        (still_some write_enum_value placed_enum_value 1 values (own ++ close ∷ semicolon ∷ [])
        some) (several_wrote (EnumValueWrote strict) write_enum_value placed_enum_value (GoodValue
        strict) (enum_value_wrote strict) values own (close ∷ semicolon ∷ []) good o) (record {
          is =
              c;
        }) (record { is = s }))
      where
        behind_notes : List Token
        behind_notes = brace ∷ (own ++ close ∷ semicolon ∷ [])

        whole : List Token
        whole = exports ++ word ∷ named ∷ (notes ++ behind_notes)

        at_name : behind (export_words exported) 1 whole ≡ named ∷ (notes ++ behind_notes)
        at_name = behind_front (export_words exported) 1 exports (word ∷ named ∷ (notes ++
            behind_notes)) e

        at_values : behind (write_annotations annotations) 1 (drop 1 (behind (export_words exported)
            1 whole)) ≡ own ++ close ∷ semicolon ∷ []
        at_values =
            ap (λ list. behind (write_annotations annotations) 1 (drop 1 list)) at_name
            ∙ behind_front (write_annotations annotations) 1 notes behind_notes a

        place_is : place_of whole ≡ from_to (first_at word.at exports) semicolon.end
        place_is =
            worded_place exports word named (notes ++ behind_notes) semicolon.end
            (ends_behind notes behind_notes semicolon.end
            (λ end. last_end_append brace.end own (close ∷ semicolon ∷ [])))

    inner : (exports : List Token) (word named : Token) (more : List Token) →
        export_words exported ≡ kinds exports → word.kind ≡ name_word (codes "enum") → named.kind ≡
        ident_word name → Around (write_annotations annotations) (mark_word (codes "{"))
        (write_several write_enum_value values ++ mark_word (codes "}") ∷ mark_word (codes ";") ∷
        []) more → Goal (exports ++ word ∷ named ∷ more)
    inner exports word named more e w n (around notes brace rest a b is) =
        second exports word named notes brace rest e w n a b
        (cut_braced (write_several write_enum_value values) rest is)

    by : (tokens : List Token) → Worded exported (name_word (codes "enum")) name (write_annotations
        annotations ++ (mark_word (codes "{") ∷ (write_several write_enum_value values ++ mark_word
        (codes "}") ∷ mark_word (codes ";") ∷ []))) tokens → Goal tokens
    by tokens (worded exports word named rest e w n is) = inner exports word named rest e w n
        (cut_at is)

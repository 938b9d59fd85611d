-- Declarations whose parts are plain are plain.
use Rattle.std.proofs.Common.{ℕ, Bool, true, false, List, [], ◌∷◌, ◌++◌, Option, Some, None}
use Rattle.std.proofs.Common.{if◌then◌else◌}
use Rattle.std.specs.List.{AllByRecursion}
use Rattle.mdl_syntax.specs.declared.types.Freq.{Freq}
use Rattle.mdl_syntax.specs.declared.imports.Import.{Import}
use Rattle.mdl_syntax.specs.Trees.{Tree}
use Rattle.mdl_syntax.specs.Levelled.{NoneDeferred}
use Rattle.mdl_syntax.specs.Modules.{Annotation, Parameter, Declaration, material, function}
use Rattle.mdl_syntax.specs.AcceptedModules.{PlainAnnotations, PlainValue, LooseParameter}
use Rattle.mdl_syntax.specs.AcceptedModules.{PlainParameter, PlainDeclaration}
use Rattle.module_grammar.specs.inside.ModuleStates.{Begun, Fronted, Front, Owner, Outcome, on}
use Rattle.module_grammar.specs.inside.ModuleStates.{with_import, with_declaration, function_from}
use Rattle.module_grammar.specs.inside.ModuleStates.{prototype_from, is_material, parameter_from}
use Rattle.module_grammar.specs.inside.ModuleStates.{of_function, of_annotation, place_of_declaration}
use Rattle.module_grammar.specs.inside.ModulePlain.{BegunPlain, FrontedPlain, OwnedPlain, OwnedSize}
use Rattle.module_grammar.proofs.ModuleFitsParts.{all_and_one}
use Rattle.module_grammar.proofs.ModulePlainFronts.{OutcomePlain}

pub if_plain : (limit : ℕ) (test : Bool) (one other : Outcome) → OutcomePlain limit one →
    OutcomePlain limit other → OutcomePlain limit (if test then one else other)
if_plain limit true one other plain others = plain
if_plain limit false one other plain others = others

pub import_plain : (limit : ℕ) (begun : Begun) (one : Import) (end : ℕ) → BegunPlain begun →
    OutcomePlain limit (on (with_import begun one end))
import_plain limit begun one end begins = (
  record {
    version = begins.version;
    annotations = begins.annotations;
    declarations = begins.declarations;
  },
  tt,
)

pub declaration_plain : (limit : ℕ) (begun : Begun) (one : Declaration) (end : ℕ) →
    BegunPlain begun →
    PlainDeclaration one → OutcomePlain limit (on (with_declaration begun one end))
declaration_plain limit begun one end begins plain = (
  record {
    version = begins.version;
    annotations = begins.annotations;
    declarations = all_and_one PlainDeclaration begun.declarations one begins.declarations plain;
  },
  tt,
)

-- the parameters of an owner, with one more
pub owned_more : (owner : Owner) (parameters : List Parameter) (front : Front)
    (default : Option Tree)
    (annotations : Option (List Annotation)) (end : ℕ) → OwnedPlain owner parameters →
    OwnedSize owner front.ty →
    PlainValue default → PlainAnnotations annotations →
    OwnedPlain owner (parameters ++ parameter_from front default annotations end ∷ [])
owned_more (of_function fronted) parameters front default annotations end owned size value notes =
    let one = parameter_from front default annotations end in (
      all_and_one LooseParameter parameters one owned.0 (value, notes),
      λ none. all_and_one PlainParameter parameters one (owned.1 none) (size none, (value, notes)),
    )
owned_more (of_annotation named) parameters front default annotations end owned size value notes =
    all_and_one LooseParameter parameters (parameter_from front default annotations end) owned
    (value, notes)

pub function_plain : (fronted : Fronted) (parameters : List Parameter) (frequency : Option Freq)
    (annotations : Option (List Annotation)) (body : Tree) (end : ℕ) → FrontedPlain fronted →
    AllByRecursion PlainParameter parameters → PlainAnnotations annotations → NoneDeferred body →
    PlainDeclaration (function_from fronted parameters frequency annotations body end)
function_plain fronted parameters (Some frequency) annotations body end plain owns notes is =
    (plain, owns, notes, is)
function_plain fronted parameters None annotations body end plain owns notes is =
    by (is_material fronted.ty)
  where
    as_material : Declaration
    as_material = material fronted.named.exported fronted.named.name parameters annotations body
        (place_of_declaration fronted.named end)

    as_function : Declaration
    as_function =
        function fronted.named.exported fronted.ty fronted.named.name parameters None annotations
        (Some body) (place_of_declaration fronted.named end)

    by : (test : Bool) → PlainDeclaration (if test then as_material else as_function)
    by true = (owns, notes, is)
    by false = (plain, owns, notes, is)

pub prototype_plain : (fronted : Fronted) (parameters : List Parameter) (frequency : Option Freq)
    (annotations : Option (List Annotation)) (end : ℕ) → FrontedPlain fronted →
    AllByRecursion LooseParameter parameters → PlainAnnotations annotations →
    PlainDeclaration (prototype_from fronted parameters frequency annotations end)
prototype_plain fronted parameters frequency annotations end plain owns notes =
    (plain, owns, notes, tt)

-- Laws of names that stand twice in a list.
use Rattle.std.proofs.Common.{◌≡◌, ◌∙◌, ◌++◌, ◌∷◌, [], ℕ, Bool, true, false, List, Option, map, refl, sym, ap}
use Rattle.std.proofs.Common.{◌||◌, if◌then◌else◌}
use Rattle.std.specs.List.{list_any, flat_map}
use Rattle.std.specs.Str.{bytes_eq}
use Rattle.std.proofs.lemmas.Bool.{false≢true, false_from_ne_true, cond-true, cond-false}
use Rattle.std.proofs.lemmas.List.{map-append, append-nil, append_assoc}
use Rattle.mdl_syntax.specs.declared.names.Ident.{Ident}
use Rattle.mdl_syntax.specs.declared.declarations.Param.{Param}
use Rattle.mdl_syntax.specs.Modules.{Parameter, Declaration, parameter_of}
use Rattle.case_table.specs.Lists.{with_first, firsts}
use Rattle.case_table.specs.ListLaws.{firsts-push}
use Rattle.scope_core.specs.declared.fault.ScopeFault.{ScopeFault}
use Rattle.scope_core.specs.ScopeFaults.{twice, twice_listed, parameters_of, parameter_faults}
use Rattle.scope_core.specs.inside.Lessening.{lesser, least_onto}
use Rattle.scope_tables.specs.inside.Owning.{same_text}
use Rattle.scope_tables.proofs.OwnLaws.{same_text-tells, any-onto}

abbrev texts_of : List Ident → List (List ℕ)
texts_of names = map (λ (name : Ident). name.text) names

-- what a name adds behind others
abbrev added : ℕ → List Ident → Ident → List ScopeFault
added m before name =
    if list_any (λ (earlier : Ident). bytes_eq earlier.text name.text) before then twice m name.span.at ∷ [] else []

-- the keys and the least fault, where these names were taken in
pub record AreListed (m : ℕ) (start : Option ScopeFault) (names : List Ident) (keys : List (List ℕ))
    (least : Option ScopeFault) : Type 0 where
  pub keys_are : keys ≡ firsts same_text (texts_of names)
  pub least_is : least ≡ least_onto start (twice_listed m [] names)

pub least_onto-append : (least : Option ScopeFault) (faults others : List ScopeFault)
    → least_onto least (faults ++ others) ≡ least_onto (least_onto least faults) others
least_onto-append least [] others = refl
least_onto-append least (fault ∷ faults) others = least_onto-append (lesser least fault) faults others

twice_listed-push : (m : ℕ) (before names : List Ident) (name : Ident)
    → twice_listed m before (names ++ name ∷ []) ≡ twice_listed m before names ++ added m (before ++ names) name
twice_listed-push m before [] name =
    append-nil (added m before name) ∙ ap (λ l. added m l name) (sym (append-nil before))
twice_listed-push m before (one ∷ names) name =
    ap (λ l. added m before one ++ l)
    (twice_listed-push m (before ++ one ∷ []) names name
    ∙ ap (λ l. twice_listed m (before ++ one ∷ []) names ++ added m l name) (append_assoc before (one ∷ []) names))
    ∙ sym (append_assoc (added m before one) (twice_listed m (before ++ one ∷ []) names)
    (added m (before ++ one ∷ names) name))

-- equality goes both ways
same_text-flips : (one other : List ℕ) → same_text one other ≡ same_text other one
same_text-flips one other = by (same_text one other) refl
  where
    by : (b : Bool) → same_text one other ≡ b → same_text one other ≡ same_text other one
    by true is =
        is ∙ sym (ap (λ text. same_text other text) (same_text-tells.only one other is) ∙ same_text-tells.itself other)
    by false is =
        is ∙ sym (false_from_ne_true (same_text other one)
        (λ yes. false≢true (sym is ∙ ap (λ text. same_text one text) (same_text-tells.only other one yes)
        ∙ same_text-tells.itself one)))

-- a name stands among others where its text does
among-texts : (name : Ident) (names : List Ident)
    → list_any (λ (earlier : Ident). bytes_eq earlier.text name.text) names
    ≡ list_any (same_text name.text) (texts_of names)
among-texts name [] = refl
among-texts name (one ∷ names) = λ k. same_text-flips one.text name.text k || among-texts name names k

among-keys : (m : ℕ) (start least : Option ScopeFault) (names : List Ident) (keys : List (List ℕ)) (name : Ident)
    → AreListed m start names keys least
    → list_any (λ (earlier : Ident). bytes_eq earlier.text name.text) names ≡ list_any (same_text name.text) keys
among-keys m start least names keys name listed =
    among-texts name names ∙ sym (any-onto name.text [] (texts_of names))
    ∙ ap (list_any (same_text name.text)) (sym listed.keys_are)

keys-push : (m : ℕ) (start least : Option ScopeFault) (names : List Ident) (keys now : List (List ℕ)) (name : Ident)
    → AreListed m start names keys least → now ≡ with_first same_text keys name.text
    → now ≡ firsts same_text (texts_of (names ++ name ∷ []))
keys-push m start least names keys now name listed is =
    is ∙ ap (λ l. with_first same_text l name.text) listed.keys_are
    ∙ sym (ap (firsts same_text) (map-append (λ (one : Ident). one.text) names (name ∷ []))
    ∙ firsts-push same_text (texts_of names) name.text)

least-push : (m : ℕ) (start least : Option ScopeFault) (names : List Ident) (keys : List (List ℕ)) (name : Ident)
    → AreListed m start names keys least
    → least_onto start (twice_listed m [] (names ++ name ∷ [])) ≡ least_onto least (added m names name)
least-push m start least names keys name listed =
    ap (least_onto start) (twice_listed-push m [] names name)
    ∙ least_onto-append start (twice_listed m [] names) (added m names name)
    ∙ ap (λ l. least_onto l (added m names name)) (sym listed.least_is)

-- a name that is known
pub listed-known : (m : ℕ) (start least after : Option ScopeFault) (names : List Ident) (keys now : List (List ℕ))
    (name : Ident) → AreListed m start names keys least → list_any (same_text name.text) keys ≡ true
    → now ≡ with_first same_text keys name.text → after ≡ lesser least (twice m name.span.at)
    → AreListed m start (names ++ name ∷ []) now after
listed-known m start least after names keys now name listed known is noted = record {
  keys_are = keys-push m start least names keys now name listed is;
  least_is =
      noted
      ∙ sym (least-push m start least names keys name listed
      ∙ ap (least_onto least)
      (cond-true (list_any (λ (earlier : Ident). bytes_eq earlier.text name.text) names) (twice m name.span.at ∷ []) []
      (among-keys m start least names keys name listed ∙ known)));
}

-- a name that is new
pub listed-new : (m : ℕ) (start least : Option ScopeFault) (names : List Ident) (keys now : List (List ℕ))
    (name : Ident) → AreListed m start names keys least → list_any (same_text name.text) keys ≡ false
    → now ≡ with_first same_text keys name.text → AreListed m start (names ++ name ∷ []) now least
listed-new m start least names keys now name listed new is = record {
  keys_are = keys-push m start least names keys now name listed is;
  least_is =
      sym (least-push m start least names keys name listed
      ∙ ap (least_onto least)
      (cond-false (list_any (λ (earlier : Ident). bytes_eq earlier.text name.text) names) (twice m name.span.at ∷ []) []
      (among-keys m start least names keys name listed ∙ new)));
}

-- a parameter's name is that of its tree
parameter-names : (params : List Param)
    → map (λ (parameter : Parameter). parameter.name) (map parameter_of params)
    ≡ map (λ (param : Param). param.name) params
parameter-names [] = refl
parameter-names (param ∷ params) = λ k. param.name ∷ parameter-names params k

-- the faults of a declaration are those of its parameters' names
pub parameter-faults : (m : ℕ) (declaration : Declaration) (params : List Param)
    → map parameter_of params ≡ parameters_of declaration
    → twice_listed m [] (map (λ (param : Param). param.name) params) ≡ parameter_faults m declaration
parameter-faults m declaration params is =
    ap (twice_listed m [])
    (sym (parameter-names params) ∙ ap (map (λ (parameter : Parameter). parameter.name)) is)

-- the faults of one more declaration
pub declarations-push : (m : ℕ) (declarations : List Declaration) (one : Declaration)
    → flat_map (parameter_faults m) (declarations ++ one ∷ [])
    ≡ flat_map (parameter_faults m) declarations ++ parameter_faults m one
declarations-push m [] one = append-nil (parameter_faults m one)
declarations-push m (first ∷ declarations) one =
    ap (λ l. parameter_faults m first ++ l) (declarations-push m declarations one)
    ∙ sym (append_assoc (parameter_faults m first) (flat_map (parameter_faults m) declarations)
    (parameter_faults m one))

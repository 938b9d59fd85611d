-- Laws of what is found.
use Rattle.std.proofs.Common.{◌≡◌, ◌∙◌, ◌++◌, ◌∷◌, [], ℕ, Bool, true, false, List, None, ltb, length}
use Rattle.std.proofs.Common.{sym, ap, slice_get, slice_index_or, arith, not, ◌&&◌, ◌==◌, ◌-◌}
use Rattle.std.proofs.lemmas.List.{map-append, length-map, length_push, take_at}
use Rattle.std.proofs.Math.Seq.{get_or-append_seam}
use Rattle.mdl_syntax.specs.declared.names.Ident.{Ident}
use Rattle.module_set.specs.declared.module_name.ModuleName.{ModuleName}
use Rattle.scope_tables.specs.declared.tables.Table.{Table}
use Rattle.scope_tables.specs.Visible.{texts, front_parts, last_part}
use Rattle.scope_tables.specs.inside.Finding.{near_places, far_places, parts_places, first_of}
use Rattle.std.specs.Str.{bytes_eq}
use Rattle.std.specs.Cmp.Lexicographic.{pointwise, pointwise_decides, bytes_decides}
use Rattle.std.proofs.lemmas.Bool.{ltb-false, false_from_ne_true, cond-false}
use Rattle.std.proofs.lemmas.Option.{slice_get_past}

pub was-missed : {A : Type 0} (xs : List A) (i : ℕ) → false ≡ ltb i (length xs) → slice_get xs i ≡ None
was-missed xs i past = slice_get_past xs i (ltb-false i (length xs) (sym past))

-- texts that are equal, or not, one by one
pub all-same : (one other : List (List ℕ)) → one ≡ other → true ≡ pointwise bytes_eq one other
all-same one other is = sym ((pointwise_decides bytes_decides one other).1 is)

pub not-same : (one other : List (List ℕ)) → (one ≡ other → ⊥) → false ≡ pointwise bytes_eq one other
not-same one other differ =
    sym (false_from_ne_true (pointwise bytes_eq one other)
    (λ yes. differ ((pointwise_decides bytes_decides one other).0 yes)))

-- a name that doesn't stand alone
pub parts-far : (names : List ModuleName) (tables : List Table) (m : ℕ) (absolute all : Bool) (parts : List Ident)
    (front : List Ident) (last : Ident) → (not absolute && (length parts == 1)) ≡ false → parts ≡ front ++ last ∷ []
    → far_places names tables m absolute (texts front) last.text all
    ≡ parts_places names tables m absolute (texts parts) all
parts-far names tables m absolute all parts front last far is =
    by (texts front) (ap (λ n. not absolute && (n == 1)) long ∙ far)
    ∙ ap (λ l. parts_places names tables m absolute l all) (sym whole)
  where
    whole : texts parts ≡ texts front ++ last.text ∷ []
    whole = ap texts is ∙ map-append (λ (part : Ident). part.text) front (last ∷ [])

    long : length (texts front ++ last.text ∷ []) ≡ length parts
    long = sym (ap length whole) ∙ length-map parts (λ (part : Ident). part.text)

    by : (ts : List (List ℕ)) → (not absolute && (length (ts ++ last.text ∷ []) == 1)) ≡ false
        → far_places names tables m absolute ts last.text all
        ≡ parts_places names tables m absolute (ts ++ last.text ∷ []) all
    by [] none =
        sym (cond-false (not absolute && (length (last.text ∷ []) == 1))
        (first_of (near_places tables m last.text all) (near_places tables (length names) last.text all))
        (far_places names tables m absolute [] last.text all) none)
    by (part ∷ ts) none =
        let count = length_push ts last.text in
        let end : length (part ∷ (ts ++ last.text ∷ [])) - 1 ≡ length (part ∷ ts) = omega (arith, count) in
        (λ k. far_places names tables m absolute
        (sym (take_at (part ∷ ts) (last.text ∷ []) (length (part ∷ (ts ++ last.text ∷ [])) - 1) (sym end)) k)
        (sym (ap (λ n. slice_index_or (part ∷ (ts ++ last.text ∷ [])) n []) end
        ∙ get_or-append_seam (part ∷ ts) last.text [] []) k) all)
        ∙ sym (cond-false (not absolute && (length (part ∷ (ts ++ last.text ∷ [])) == 1))
        (first_of (near_places tables m (last_part (part ∷ (ts ++ last.text ∷ []))) all)
        (near_places tables (length names) (last_part (part ∷ (ts ++ last.text ∷ []))) all))
        (far_places names tables m absolute (front_parts (part ∷ (ts ++ last.text ∷ [])))
        (last_part (part ∷ (ts ++ last.text ∷ []))) all) none)

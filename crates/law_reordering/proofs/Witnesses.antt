-- Request 09 for files that differ in the order of their clauses: the setting that shows the fault is the same.
use Prim.Native.Nat.{ℕ, suc, ◌+◌}
use mathlib.Core.Path.{◌≡◌, refl, sym, ap, ap₂, ◌∙◌}
use mathlib.Core.Bool.{Bool, cond, ◌||◌}
use mathlib.Core.Option.{Option, none, some}
use mathlib.Core.List.{List, [], ◌∷◌, map}
use lib.Dec.{ltb, eqb}
use lib.ListN.{length}
use Rattle.limits.specs.Limits.{result_length}
use Rattle.calculus.specs.Tools.{total}
use Rattle.calculus.specs.Trees.{Ty, Pat, Val, Clause, Iso}
use Rattle.calculus.specs.Refusals.{Refusal, number}
use Rattle.format.specs.Lines.{Row}
use Rattle.format.specs.Unfold.{isos_of}
use Rattle.calculus.specs.Clauses.{Sigs, sigs_of, lefts, rights, clause_fault, iso_fault}
use Rattle.model.specs.Services.{short, written}
use Rattle.calculus.proofs.Checking.{clause_fault_iff}
use Rattle.model.proofs.Files.{InForm}
use Rattle.calculus.specs.Hits.{hit, hits}
use Rattle.law_witnesses.specs.Showing.{find, values_with, count_up, setting, twice, never, shown_by, shown, shown_or, shown_first, letters_of?, showing, show_service}
use Rattle.law_witnesses.proofs.Spelling.{first_of_ext}
use Rattle.law_witnesses.proofs.Sides.{fault_unsided}
use Rattle.law_witnesses.proofs.Showing.{unshown, showing_rows}
use Rattle.law_witnesses.proofs.Served.{Cases, cases}
use Rattle.law_reordering.specs.Reordered.{bare, AlikeIso, Alike, more, SameButOrder}
use Rattle.law_reordering.proofs.Alike.{perm_map, perm_total, alike_sigs, iso_none, Near, iso_near}
use Rattle.law_reordering.proofs.Files.{reordered_sym, in_form_lem}

-- ---- an iso

-- how many patterns match, over clauses at other places
bare_hits : (g : Clause → Pat) → ((c : Clause) → g (bare c) ≡ g c) → (v : Val) (cs : List Clause)
    → total (map (λ c. hit (g c) v) (map bare cs)) ≡ hits (map g cs) v
bare_hits g h v [] = refl
bare_hits g h v (c ∷ cs) = ap₂ ◌+◌ (ap (λ p. hit p v) (h c)) (bare_hits g h v cs)

hits_same : (g : Clause → Pat) → ((c : Clause) → g (bare c) ≡ g c) → {o n : Iso} → AlikeIso o n → (v : Val) → hits (map g o.clauses) v ≡ hits (map g n.clauses) v
hits_same g h {o} {n} a v =
    sym (bare_hits g h v o.clauses) ∙ perm_total (perm_map (λ c. hit (g c) v) a.clauses) ∙ bare_hits g h v n.clauses

find_same : {f g : Val → Bool} → ((v : Val) → f v ≡ g v) → (vs : List Val) → find f vs ≡ find g vs
find_same h [] = refl
find_same h (v ∷ vs) = ap₂ (λ b x. cond b (some v) x) (h v) (find_same h vs)

setting_same : {a b : Ty} {f g : Val → Bool} → a ≡ b → ((v : Val) → f v ≡ g v) → setting a f ≡ setting b g
unfolding setting
setting_same {a} {b} {f} {g} e h = ap (λ c. setting c f) e ∙ first_of_ext (count_up 128 0) (λ n. find_same h (values_with n b))

shown_same : {o n : Iso} → AlikeIso o n → (k : ℕ) → shown_by k o ≡ shown_by k n
shown_same {o} {n} a k =
    ap₂ (λ w x. pick w x (setting o.from (never (lefts o))) (setting o.to (never (rights o))))
    (setting_same a.from (λ v. ap (λ m. ltb 1 m) (lhs v))) (setting_same a.to (λ v. ap (λ m. ltb 1 m) (rhs v)))
    ∙ ap₂ (pick (setting n.from (twice (lefts n))) (setting n.to (twice (rights n))))
    (setting_same a.from (λ v. ap (λ m. eqb m 0) (lhs v))) (setting_same a.to (λ v. ap (λ m. eqb m 0) (rhs v)))
  where
    pick : Option Val → Option Val → Option Val → Option Val → Option Val
    pick w x y z = cond (eqb k 11) w (cond (eqb k 12) x (cond (eqb k 13) y (cond (eqb k 14) z none)))

    lhs : (v : Val) → hits (lefts o) v ≡ hits (lefts n) v
    lhs = hits_same (λ c. c.lhs) (λ c. refl) a

    rhs : (v : Val) → hits (rights o) v ≡ hits (rights n) v
    rhs = hits_same (λ c. c.rhs) (λ c. refl) a

-- ---- the isos in order

-- 8 to 10 show nothing
clause_shows : (sigs : Sigs) (a b : Ty) (c : Clause) (f : Refusal) (o : Iso) → clause_fault sigs a b c ≡ some f → shown f o ≡ none
clause_shows sigs a b c f o e = unshown (number f) o (fault_unsided ((clause_fault_iff sigs a b c f).0 e))

first_same : (sigs : Sigs) (i : ℕ) {os ns : List Iso} → Alike os ns → shown_first sigs i os ≡ shown_first sigs i ns
first_same sigs i Alike.none = refl
first_same sigs i (more {o} {n} {os} {ns} a h) = go (iso_fault sigs i o) refl (first_same sigs (suc i) h)
  where
    near : (r q : Refusal × ℕ) → Near sigs (o ∷ os) r q → shown r.0 o ≡ shown q.0 n
    near r q (Near.sides e) = shown_same a (number r.0) ∙ ap (λ x. shown x.0 n) e
    near r q (Near.calls e f) = ap (λ x. shown x o) e ∙ sym (ap (λ x. shown x n) f)
    near r q (Near.clauses p m c d i j x y) = clause_shows sigs p.from p.to c r.0 o x ∙ sym (clause_shows sigs p.from p.to d q.0 n y)

    go : (x : Option (Refusal × ℕ)) → iso_fault sigs i o ≡ x → shown_first sigs (suc i) os ≡ shown_first sigs (suc i) ns
        → shown_first sigs i (o ∷ os) ≡ shown_first sigs i (n ∷ ns)
    go none e below =
        ap (λ x. shown_or o x (shown_first sigs (suc i) os)) e ∙ below ∙ sym (ap (λ x. shown_or n x (shown_first sigs (suc i) ns)) (iso_none sigs i a e))
    go (some r) e below =
        let (q, y, z) = iso_near sigs i a os r e in
        ap (λ x. shown_or o x (shown_first sigs (suc i) os)) e ∙ near r q z ∙ sym (ap (λ x. shown_or n x (shown_first sigs (suc i) ns)) y)

-- ---- files

in_form_same : (file other : List ℕ) → SameButOrder file other → (rs : List Row) → InForm file rs → showing file ≡ showing other
in_form_same file other r rs h =
    let (qs, k, t) = in_form_lem file other r rs h in
    showing_rows file rs h
    ∙ ap letters_of? (ap (λ s. shown_first s 0 (isos_of rs)) (alike_sigs t.alike) ∙ first_same (sigs_of (isos_of qs)) 0 t.alike)
    ∙ sym (showing_rows other qs k)

pub showing_same : (file other : List ℕ) → SameButOrder file other → showing file ≡ showing other
showing_same file other r = go (cases file) (cases other)
  where
    go : Cases file → Cases other → showing file ≡ showing other
    go (Cases.in_form rs h) k = in_form_same file other r rs h
    go (Cases.other f n e u o d) (Cases.in_form qs k) = sym (in_form_same other file (reordered_sym r) qs k)
    go (Cases.other f n e u o d) (Cases.other g m i j p l) = d ∙ sym l

-- in any lent areas: the same length and the same result area, whatever is answered
pub witness_same : (file other table work result : List ℕ) → SameButOrder file other
    → ((show_service file table work result).length ≡ (show_service other table work result).length)
    × ((show_service file table work result).result ≡ (show_service other table work result).result)
unfolding show_service
witness_same file other table work result r =
    let e = ap (cond (short table work || ltb (length result) result_length) []) (showing_same file other r) in (ap length e, ap (λ ls. written ls result) e)

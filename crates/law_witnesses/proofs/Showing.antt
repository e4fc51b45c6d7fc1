-- Request 09: with refusals 11 to 14 of a file the service gives the least value that shows the fault, or it has over 127 letters.
use Prim.Native.Nat.{ℕ, suc, ◌<◌, ◌≤◌}
use mathlib.Core.Path.{◌≡◌, refl, sym, ap, ap₂, ◌∙◌, subst}
use mathlib.Core.Bool.{true, false, cond, ◌&&◌}
use mathlib.Core.Option.{Option, none, some}
use mathlib.Core.List.{List, [], ◌∷◌, Memᴰ}
use lib.Dec.{leb}
use Rattle.calculus.specs.Tools.{or_else}
use lib.ListN.{length}
use Rattle.limits.specs.Limits.{result_length}
use Rattle.calculus.specs.Trees.{left, right, Val, Iso}
use Rattle.calculus.specs.Refusals.{Refusal, number, iso_line, overlap, gap}
use Rattle.format.specs.Lines.{Row, lines}
use Rattle.format.specs.Judge.{start, read_from}
use Rattle.format.specs.Unfold.{isos_of}
use Rattle.calculus.specs.Clauses.{Sigs, sigs_of, iso_fault, fault_from, fault, lefts, rights}
use Rattle.law_witnesses.specs.Showing.{Twice, Never, Shows, TooLarge, setting, twice, never, sided, shown_by, shown, shown_or, shown_first, letters_of?, shown_unless, shown_of, showing}
use Rattle.calculus.proofs.Basic.{none≢some, some_inj, not_both, not_eqb}
use Rattle.calculus.proofs.Letters.{letters_some}
use Rattle.calculus.proofs.Checking.{light_of}
use Rattle.format.proofs.Idling.{idle_none}
use Rattle.model.proofs.Sizes.{small_types}
use Rattle.model.proofs.Files.{InForm, passes, formed_of}
use Rattle.law_witnesses.proofs.Sides.{Sight, Found, Known, iso_found}

-- nothing is shown with another refusal
pub unshown : (n : ℕ) (o : Iso) → (leb 11 n && leb n 14) ≡ false → shown_by n o ≡ none
unshown n o e =
    rw (not_eqb (other 11 (refl, refl)), not_eqb (other 12 (refl, refl)), not_eqb (other 13 (refl, refl)), not_eqb (other 14 (refl, refl)))
  where
    other : (k : ℕ) → (leb 11 k ≡ true) × (leb k 14 ≡ true) → n ≡ k → ⊥
    other k h d = not_both (ap₂ ◌&&◌ h.0 h.1) (ap (λ m. leb 11 m && leb m 14) (sym d) ∙ e)

pair_fst : {A B : Type 0} {x y : A × B} → ◌≡◌ {A = Option (A × B)} (some x) (some y) → x.0 ≡ y.0
pair_fst e = ap (λ p. p.0) (some_inj e)

-- ---- the isos in order

-- the iso that is refused, and what is shown of it
pub record Refused (sigs : Sigs) (i : ℕ) (os : List Iso) (f : Refusal) (n : ℕ) : Type 0 where
  pub iso : Iso
  pub mem : Memᴰ iso os
  pub line : n ≡ iso.line
  pub found : Found iso f
  pub first : shown_first sigs i os ≡ shown f iso

module _ (sigs : Sigs) where
  pub first_refused : (i : ℕ) (os : List Iso) → ((o : Iso) → Memᴰ o os → Known o) → (f : Refusal) (n : ℕ) → sided f ≡ true → fault_from sigs i os ≡ some (f, n)
      → Refused sigs i os f n
  first_refused i [] k f n s e = absurd (none≢some e)
  first_refused i (o ∷ os) k f n s e =
      go (iso_fault sigs i o) (iso_found sigs i o (k o (Memᴰ.head refl)) f n s) e (first_refused (suc i) os (λ q m. k q (Memᴰ.tail m)) f n s) refl
    where
      go : (x : Option (Refusal × ℕ)) → (x ≡ some (f, n) → (n ≡ o.line) × Found o f) → or_else x (fault_from sigs (suc i) os) ≡ some (f, n)
          → (fault_from sigs (suc i) os ≡ some (f, n) → Refused sigs (suc i) os f n) → iso_fault sigs i o ≡ x → Refused sigs i (o ∷ os) f n
      go none h e below d =
          let r = below e in
          record {
            iso = r.iso;
            mem = Memᴰ.tail r.mem;
            line = r.line;
            found = r.found;
            first = ap (λ x. shown_or o x (shown_first sigs (suc i) os)) d ∙ r.first;
          }
      go (some g) h e below d =
          record {
            iso = o;
            mem = Memᴰ.head refl;
            line = (h e).0;
            found = (h e).1;
            first = ap (λ x. shown_or o x (shown_first sigs (suc i) os)) d ∙ ap (λ j. shown j o) (pair_fst e);
          }

  first_silent : (i : ℕ) (qs : List Iso) → ((f : Refusal) (n : ℕ) → fault_from sigs i qs ≡ some (f, n) → sided f ≡ false) → shown_first sigs i qs ≡ none
  first_silent i [] h = refl
  first_silent i (o ∷ qs) h = go (iso_fault sigs i o) h (first_silent (suc i) qs)
    where
      go : (x : Option (Refusal × ℕ)) → ((f : Refusal) (n : ℕ) → or_else x (fault_from sigs (suc i) qs) ≡ some (f, n) → sided f ≡ false)
          → (((f : Refusal) (n : ℕ) → fault_from sigs (suc i) qs ≡ some (f, n) → sided f ≡ false) → shown_first sigs (suc i) qs ≡ none)
          → shown_or o x (shown_first sigs (suc i) qs) ≡ none
      go none h below = below h
      go (some g) h below = unshown (number g.0) o (h g.0 g.1 refl)

-- ---- a file in form

pub showing_rows : (bs : List ℕ) (rs : List Row) → InForm bs rs → showing bs ≡ letters_of? (shown_first (sigs_of (isos_of rs)) 0 (isos_of rs))
unfolding showing
showing_rows bs rs h =
    ap (λ b. cond b [] (shown_of (read_from start 1 (lines bs)))) h.fits
    ∙ ap shown_of h.reads
    ∙ ap (λ x. shown_unless x (letters_of? (shown_first (sigs_of (isos_of rs)) 0 (isos_of rs)))) ((idle_none (passes bs rs h)).1 h.used)

-- what reading tells of the isos
pub known_isos : (bs : List ℕ) (rs : List Row) → InForm bs rs → (o : Iso) → Memᴰ o (isos_of rs) → Known o
known_isos bs rs h o m =
    let t = small_types (passes bs rs h) o m in record { light = light_of (isos_of rs) (formed_of bs rs h) o m; from = t.0; to = t.1 }

pub refused_iso : (bs : List ℕ) (rs : List Row) → InForm bs rs → (f : Refusal) (n : ℕ) → fault (isos_of rs) ≡ some (f, n) → sided f ≡ true
    → Refused (sigs_of (isos_of rs)) 0 (isos_of rs) f n
unfolding fault
refused_iso bs rs h f n e s = first_refused (sigs_of (isos_of rs)) 0 (isos_of rs) (known_isos bs rs h) f n s e

-- what is shown with a refusal of a side: the least value, of at most 127 letters, or nothing, where it has more
pub data Told (os : List Iso) (n : ℕ) (f : Refusal) : List ℕ → Type 0 where
  value : {ls : List ℕ} → Shows os n ls f → 0 < length ls → length ls ≤ result_length → Told os n f ls
  large : TooLarge os n f → Told os n f []

found_told : {o : Iso} {f : Refusal} → Found o f → (os : List Iso) → Memᴰ o os → (n : ℕ) → n ≡ o.line → Told os n f (letters_of? (shown f o))
found_told {o} (Found.overlap_left s x) os m n d = go (setting o.from (twice (lefts o))) x
  where
    go : (y : Option Val) → Sight o.from (Twice (lefts o)) y → Told os n (overlap iso_line left) (letters_of? y)
    go (some v) (Sight.seen l h) = Told.value (Shows.overlap_left o v m d l refl) (letters_some v) h
    go none (Sight.unseen l) = Told.large (TooLarge.overlap_left o m d l)
found_told {o} (Found.overlap_right s x) os m n d = go (setting o.to (twice (rights o))) x
  where
    go : (y : Option Val) → Sight o.to (Twice (rights o)) y → Told os n (overlap iso_line right) (letters_of? y)
    go (some v) (Sight.seen l h) = Told.value (Shows.overlap_right o v m d l refl) (letters_some v) h
    go none (Sight.unseen l) = Told.large (TooLarge.overlap_right o m d l)
found_told {o} (Found.gap_left s a x) os m n d = go (setting o.from (never (lefts o))) x
  where
    go : (y : Option Val) → Sight o.from (Never (lefts o)) y → Told os n (gap iso_line left) (letters_of? y)
    go (some v) (Sight.seen l h) = Told.value (Shows.gap_left o v m d l refl) (letters_some v) h
    go none (Sight.unseen l) = Told.large (TooLarge.gap_left o m d l)
found_told {o} (Found.gap_right s a x) os m n d = go (setting o.to (never (rights o))) x
  where
    go : (y : Option Val) → Sight o.to (Never (rights o)) y → Told os n (gap iso_line right) (letters_of? y)
    go (some v) (Sight.seen l h) = Told.value (Shows.gap_right o v m d l refl) (letters_some v) h
    go none (Sight.unseen l) = Told.large (TooLarge.gap_right o m d l)

-- "gives, for the iso and side refused, the value …"
pub shows : (bs : List ℕ) (rs : List Row) → InForm bs rs → (f : Refusal) (n : ℕ) → fault (isos_of rs) ≡ some (f, n) → sided f ≡ true → Told (isos_of rs) n f (showing bs)
shows bs rs h f n e s =
    let r = refused_iso bs rs h f n e s in
    subst (Told (isos_of rs) n f) (sym (showing_rows bs rs h ∙ ap letters_of? r.first)) (found_told r.found (isos_of rs) r.mem n r.line)

-- "for other answers no value is given"
pub silent : (bs : List ℕ) (rs : List Row) → InForm bs rs → ((f : Refusal) (n : ℕ) → fault (isos_of rs) ≡ some (f, n) → sided f ≡ false) → showing bs ≡ []
unfolding fault
silent bs rs h e = showing_rows bs rs h ∙ ap letters_of? (first_silent (sigs_of (isos_of rs)) 0 (isos_of rs) e)

-- Files that differ in the order of clauses: as many bytes and lines, in form alike, accepted alike.
use Prim.Native.Nat.{ℕ, ◌+◌}
use native.Mathlib.Omega.{arith}
use mathlib.Core.Path.{◌≡◌, refl, sym, ap, ap₂, ◌∙◌, subst}
use mathlib.Core.Bool.{◌||◌}
use mathlib.Core.List.{List, [], ◌∷◌, ◌++◌, map}
use lib.Dec.{ltb}
use lib.ListN.{length, length-append}
use Rattle.limits.specs.Limits.{max_bytes, max_lines}
use mathlib.Core.Bool.{false}
use mathlib.Core.Option.{some}
use Rattle.calculus.specs.Tools.{concat, or_else}
use Rattle.calculus.specs.Refusals.{Refusal}
use Rattle.calculus.specs.Clauses.{fault}
use Rattle.format.specs.Idle.{idle_fault}
use Rattle.format.specs.Lines.{Row, lines, print}
use Rattle.format.specs.Judge.{start, rows, read_from}
use Rattle.format.specs.Unfold.{isos_of, turn_rows}
use Rattle.model.specs.Services.{accepted, refused, judged, verdict, over, turned}
use Rattle.format.proofs.Passing.{Passes}
use Rattle.format.proofs.Idling.{idle_none}
use Rattle.format.proofs.Printing.{lines_print, concat_lines}
use Rattle.model.proofs.Files.{InForm, accepted_form, verdict_in_form, verdict_read, turned_accepted_bytes}
use Rattle.law_ranking.specs.Numbering.{types_of}
use Rattle.law_reordering.specs.Reordered.{Exchanged, Reordered, SameButOrder, Alike}
use Rattle.law_reordering.proofs.Alike.{fault_alike}
use Rattle.law_reordering.proofs.Reading.{read_pass, pass_read, other_rows}

-- ---- the relation has no direction

exchanged_sym : {xs ys : List (List ℕ)} → Exchanged xs ys → Exchanged ys xs
exchanged_sym x =
    record {
      before = x.before;
      one = x.two;
      two = x.one;
      behind = x.behind;
      one_block = x.two_block;
      two_block = x.one_block;
      whole = x.whole;
      here = x.there;
      there = x.here;
    }

pub reordered_then : {xs ys zs : List (List ℕ)} → Reordered xs ys → Reordered ys zs → Reordered xs zs
reordered_then {zs = zs} (Reordered.same e) r = subst (λ z. Reordered z zs) (sym e) r
reordered_then (Reordered.exchange x q) r = Reordered.exchange x (reordered_then q r)

pub reordered_sym : {xs ys : List (List ℕ)} → Reordered xs ys → Reordered ys xs
reordered_sym (Reordered.same e) = Reordered.same (sym e)
reordered_sym (Reordered.exchange x r) = reordered_then (reordered_sym r) (Reordered.exchange (exchanged_sym x) (Reordered.same refl))

-- ---- as many bytes and lines

concat_append : (xs ys : List (List ℕ)) → length (concat (xs ++ ys)) ≡ length (concat xs) + length (concat ys)
concat_append [] ys = omega arith
concat_append (x ∷ xs) ys =
    let h = concat_append xs ys in
    let a = length-append x (concat (xs ++ ys)) in
    let b = length-append x (concat xs) in
    omega arith

four_bytes : (a b c d : List (List ℕ)) → length (concat (a ++ (b ++ (c ++ d)))) ≡ length (concat a) + (length (concat b) + (length (concat c) + length (concat d)))
four_bytes a b c d =
    let p = concat_append a (b ++ (c ++ d)) in let q = concat_append b (c ++ d) in let r = concat_append c d in omega arith

four_lines : (a b c d : List (List ℕ)) → length (a ++ (b ++ (c ++ d))) ≡ length a + (length b + (length c + length d))
four_lines a b c d = let p = length-append a (b ++ (c ++ d)) in let q = length-append b (c ++ d) in let r = length-append c d in omega arith

exchanged_bytes : {xs ys : List (List ℕ)} → Exchanged xs ys → length (concat xs) ≡ length (concat ys)
exchanged_bytes x =
    let p = four_bytes x.before x.one x.two x.behind in
    let q = four_bytes x.before x.two x.one x.behind in
    ap (λ z. length (concat z)) x.here ∙ omega arith ∙ ap (λ z. length (concat z)) (sym x.there)

exchanged_lines : {xs ys : List (List ℕ)} → Exchanged xs ys → length xs ≡ length ys
exchanged_lines x =
    let p = four_lines x.before x.one x.two x.behind in
    let q = four_lines x.before x.two x.one x.behind in
    ap length x.here ∙ omega arith ∙ ap length (sym x.there)

reordered_bytes : {xs ys : List (List ℕ)} → Reordered xs ys → length (concat xs) ≡ length (concat ys)
reordered_bytes (Reordered.same e) = ap (λ z. length (concat z)) e
reordered_bytes (Reordered.exchange x r) = exchanged_bytes x ∙ reordered_bytes r

reordered_lines : {xs ys : List (List ℕ)} → Reordered xs ys → length xs ≡ length ys
reordered_lines (Reordered.same e) = ap length e
reordered_lines (Reordered.exchange x r) = exchanged_lines x ∙ reordered_lines r

pub same_length : (file other : List ℕ) → SameButOrder file other → length file ≡ length other
same_length file other r = ap length (sym (concat_lines file)) ∙ reordered_bytes r ∙ ap length (concat_lines other)

-- both are too long, or neither
pub same_over : (file other : List ℕ) → SameButOrder file other → over file ≡ over other
unfolding over
same_over file other r = ap₂ (λ m n. ltb max_bytes m || ltb max_lines n) (same_length file other r) (reordered_lines r)

-- ---- what the rows of two such files in form share

pub record Twins (rs qs : List Row) : Type 0 where
  pub passes : Passes start rs
  pub passes' : Passes start qs
  pub types : types_of rs ≡ types_of qs
  pub alike : Alike (isos_of rs) (isos_of qs)
  pub turned : Reordered (map print (turn_rows rs)) (map print (turn_rows qs))

-- both are in form, or neither
pub in_form_lem : (file other : List ℕ) → SameButOrder file other → (rs : List Row) → InForm file rs → (qs : List Row) × InForm other qs × Twins rs qs
in_form_lem file other r rs h =
    let (q, p) = read_pass start 1 (lines file) rs h.reads in
    let o = other_rows r rs q p in (
      o.others,
      record {
        fits = sym (same_over file other r) ∙ h.fits;
        reads = pass_read 1 o.each o.passes;
        used = (idle_none o.passes).0 (sym o.idle ∙ (idle_none p).1 h.used);
      },
      record { passes = p; passes' = o.passes; types = o.types; alike = o.alike; turned = o.turned },
    )

-- Request 11: where lines that pass 3 to 7 have an idle line, the other file is refused at the same line.
pub idle_too : (file other : List ℕ) → SameButOrder file other → over file ≡ false → (rs : List Row) → read_from start 1 (lines file) ≡ rows rs
    → (f : Refusal) (n : ℕ) → idle_fault rs ≡ some (f, n) → (verdict file ≡ refused f n) × (verdict other ≡ refused f n)
idle_too file other r h rs e f n i =
    let (q, p) = read_pass start 1 (lines file) rs e in
    let o = other_rows r rs q p in (
      verdict_read file rs h e ∙ ap (λ x. judged rs (or_else x (fault (isos_of rs)))) i,
      verdict_read other o.others (sym (same_over file other r) ∙ h) (pass_read 1 o.each o.passes)
          ∙ ap (λ x. judged o.others (or_else x (fault (isos_of o.others)))) (sym o.idle ∙ i),
    )

-- both are accepted, or neither
pub accepted_too : (file other : List ℕ) → SameButOrder file other → (rs : List Row) → verdict file ≡ accepted rs
    → (qs : List Row) × (verdict other ≡ accepted qs) × Twins rs qs
accepted_too file other r rs e =
    let f = accepted_form file rs e in
    let (qs, h, t) = in_form_lem file other r rs f.0 in
    (qs, verdict_in_form other qs h ∙ ap (judged qs) (fault_alike t.alike f.1), t)

-- the turned files are such files again
pub turned_too : (file other : List ℕ) → SameButOrder file other → (rs : List Row) → verdict file ≡ accepted rs → SameButOrder (turned file) (turned other)
turned_too file other r rs e =
    let (qs, a, t) = accepted_too file other r rs e in
    let p = ap lines (turned_accepted_bytes file rs e) ∙ lines_print (turn_rows rs) in
    let q = ap lines (turned_accepted_bytes other qs a) ∙ lines_print (turn_rows qs) in
    subst (λ z. Reordered z (lines (turned other))) (sym p) (subst (Reordered (map print (turn_rows rs))) (sym q) t.turned)

-- The machine of specs/Stream prints what the desk program prints, and what it is given may be cut anywhere.
use Prim.Native.Nat.{ℕ, ◌+◌, ◌<◌}
use native.Mathlib.Omega.{arith}
use mathlib.Core.Path.{◌≡◌, refl, sym, ap, ap₂, ◌∙◌, subst}
use mathlib.Core.Logic.{◌⊎◌, inl, inr}
use mathlib.Core.Bool.{Bool, true, false, ◌&&◌}
use mathlib.Core.Option.{none}
use mathlib.Core.List.Memᴰ
use mathlib.Core.List.{List, [], ◌∷◌, ◌++◌, append_assoc, append-nil}
use lib.Dec.{eqb}
use lib.ListN.{length, length-append}
use Rattle.limits.specs.Limits.{line_feed, letter_q, max_bytes}
use Rattle.calculus.specs.Tools.{concat}
use Rattle.calculus.specs.Refusals.{too_long}
use Rattle.format.specs.Lines.{Row, lines, onto_first}
use Rattle.model.specs.Services.{Verdict, accepted, refused, verdict, answer_of, answer_of_run}
use Rattle.model.specs.Desk.{is_query, file_lines, query_lines, query_of, answer_to, query_answers, query_line, file_line, desk}
use Rattle.calculus.proofs.Basic.{bool_cases, not_both, and_true, eqb_eq, each_nil, each_cons, each_append, not_leb, ltb_lt}
use Rattle.format.proofs.Printing.{NoFeed, Feedless, lines_feed, lines_last}
use Rattle.model.proofs.Files.{verdict_long}
use Rattle.query_lines.specs.Stream.{State, collecting, asking, stopped, Step, opens_from, opens, begun, close, answered, step, finish, behind, steps, output, settled}

-- ---- cutting

-- some bytes and then others
pub steps_append : (s : State) (xs ys : List ℕ) → steps s (xs ++ ys) ≡ behind (steps s xs).prints (steps (steps s xs).next ys)
steps_append s [] ys = refl
steps_append s (x ∷ xs) ys =
    ap (behind (step s x).prints) (steps_append (step s x).next xs ys)
    ∙ ap
    (λ ps. record { next = (steps (steps (step s x).next xs).next ys).next; prints = ps })
    (sym (append_assoc (step s x).prints (steps (step s x).next xs).prints (steps (steps (step s x).next xs).next ys).prints))

-- the state after both
pub next_append : (s : State) (xs ys : List ℕ) → (steps s (xs ++ ys)).next ≡ (steps (steps s xs).next ys).next
next_append s xs ys = ap (λ r. r.next) (steps_append s xs ys)

-- what both print
pub prints_append : (s : State) (xs ys : List ℕ) → (steps s (xs ++ ys)).prints ≡ (steps s xs).prints ++ (steps (steps s xs).next ys).prints
prints_append s xs ys = ap (λ r. r.prints) (steps_append s xs ys)

-- one byte
pub steps_one : (s : State) (b : ℕ) → steps s (b ∷ []) ≡ step s b
steps_one s b = ap (λ ps. record { next = (step s b).next; prints = ps }) (append-nil (step s b).prints)

-- one byte more
pub steps_more : (s : State) (xs : List ℕ) (b : ℕ) → steps s (xs ++ (b ∷ [])) ≡ behind (steps s xs).prints (step (steps s xs).next b)
steps_more s xs b = steps_append s xs (b ∷ []) ∙ ap (behind (steps s xs).prints) (steps_one (steps s xs).next b)

-- the last byte decides, whatever began before
opens_from_lem : (o : Bool) (bs : List ℕ) (b : ℕ) → opens_from o (bs ++ (b ∷ [])) ≡ eqb b line_feed
opens_from_lem o [] b = refl
opens_from_lem o (c ∷ bs) b = opens_from_lem (eqb c line_feed) bs b

-- a line begins behind a line feed
pub opens_append : (bs : List ℕ) (b : ℕ) → opens (bs ++ (b ∷ [])) ≡ eqb b line_feed
opens_append bs b = opens_from_lem true bs b

-- ---- a file and a line that are too long

-- all files of more than 65,536 bytes are refused alike
pub verdict_cap : (bs cs : List ℕ) → 65536 < length bs → 65536 < length cs → verdict bs ≡ verdict cs
verdict_cap bs cs h k = verdict_long bs h ∙ sym (verdict_long cs k)

-- so two of them are closed and finished alike
pub close_cap : (bs cs : List ℕ) → 65536 < length bs → 65536 < length cs → close bs ≡ close cs
close_cap bs cs h k = ap (λ v. record { next = begun v; prints = file_line (answer_of v) }) (verdict_cap bs cs h k)

pub finish_cap : (bs cs : List ℕ) → 65536 < length bs → 65536 < length cs → finish (collecting bs) ≡ finish (collecting cs)
finish_cap bs cs h k = ap (λ v. file_line (answer_of v)) (verdict_cap bs cs h k)

-- a line of more than 200 bytes is no query
pub query_cap : (l : List ℕ) → 200 < length l → query_of l ≡ none
unfolding query_of
query_cap l h = rw (not_leb h)

-- and two such lines are answered alike
pub answered_cap : (rs : List Row) (l m : List ℕ) → 200 < length l → 200 < length m → answered rs l ≡ answered rs m
answered_cap rs l m h k = ap (λ q. query_line (answer_of_run (answer_to (accepted rs) q))) (query_cap l h ∙ sym (query_cap m k))

-- ---- the queries

-- one byte more that is no line feed
feedless_more : (l : List ℕ) (b : ℕ) → Feedless l → eqb b line_feed ≡ false → Feedless (l ++ (b ∷ []))
feedless_more l b h t = each_append NoFeed l h (each_cons NoFeed t (each_nil NoFeed))

-- what the lines of some bytes answer
abbrev answers : List Row → List ℕ → List ℕ
answers rs bs = query_answers (accepted rs) (lines bs)

-- the end of the input ends the line
ask_end : (rs : List Row) (l : List ℕ) → Feedless l → finish (asking rs l) ≡ answers rs (l ++ [])
ask_end rs [] h = refl
ask_end rs (b ∷ l) h =
    sym (append-nil (answered rs (b ∷ l)))
    ∙ ap (query_answers (accepted rs)) (sym (lines_last b l h) ∙ ap lines (sym (append-nil (b ∷ l))))

-- a line feed ends the line
ask_feed :
    (rs : List Row) (l cs : List ℕ)
    → Feedless l
    → output (asking rs []) cs ≡ answers rs cs
    → output (asking rs l) (line_feed ∷ cs) ≡ answers rs (l ++ (line_feed ∷ cs))
ask_feed rs l cs h rest =
    let s : Step = steps (asking rs []) cs in
    append_assoc (answered rs (l ++ (line_feed ∷ []))) s.prints (finish s.next)
    ∙ ap (λ ps. answered rs (l ++ (line_feed ∷ [])) ++ ps) rest
    ∙ ap (query_answers (accepted rs)) (sym (lines_feed l cs h))

-- a state that asks prints the answers to the line begun and to all lines behind it
asks : (rs : List Row) (l cs : List ℕ) → Feedless l → output (asking rs l) cs ≡ answers rs (l ++ cs)
asks rs l [] h = ask_end rs l h
asks rs l (b ∷ cs) h = go (bool_cases (eqb b line_feed)) (asks rs [] cs (each_nil NoFeed)) (λ k. asks rs (l ++ (b ∷ [])) cs k)
  where
    go :
        (eqb b line_feed ≡ true) ⊎ (eqb b line_feed ≡ false)
        → output (asking rs []) cs ≡ answers rs cs
        → (Feedless (l ++ (b ∷ [])) → output (asking rs (l ++ (b ∷ []))) cs ≡ answers rs ((l ++ (b ∷ [])) ++ cs))
        → output (asking rs l) (b ∷ cs) ≡ answers rs (l ++ (b ∷ cs))
    go (inl t) rest more =
        subst (λ c. output (asking rs l) (c ∷ cs) ≡ answers rs (l ++ (c ∷ cs))) (sym (eqb_eq b line_feed t)) (ask_feed rs l cs h rest)
    go (inr t) rest more = rw t (more (feedless_more l b h t) ∙ ap (answers rs) (append_assoc l (b ∷ []) cs))

-- ---- the file

-- nothing is printed behind a refused file's answer
pub stops : (cs : List ℕ) → output stopped cs ≡ []
stops [] = refl
stops (b ∷ cs) = stops cs

-- what a file with this verdict, followed by these lines, prints
abbrev shown : Verdict → List (List ℕ) → List ℕ
shown v ls = file_line (answer_of v) ++ query_answers v ls

-- what is printed where some bytes of the file are behind, and these lines follow
abbrev desk_from : List ℕ → List (List ℕ) → List ℕ
desk_from pre ls = shown (verdict (pre ++ concat (file_lines ls))) (query_lines ls)

-- a file without queries
shown_none : (v : Verdict) → file_line (answer_of v) ≡ shown v []
shown_none (accepted rs) = sym (append-nil (file_line (answer_of (accepted rs))))
shown_none (refused f n) = sym (append-nil (file_line (answer_of (refused f n))))

-- the end of the input ends the file
collect_end : (pre l : List ℕ) → Feedless l → is_query l ≡ false → file_line (answer_of (verdict (pre ++ l))) ≡ desk_from pre (lines (l ++ []))
collect_end pre [] h q = shown_none (verdict (pre ++ []))
collect_end pre (b ∷ l) h q =
    let line : List ℕ = b ∷ l in
    let one : desk_from pre (line ∷ []) ≡ shown (verdict (pre ++ (line ++ []))) [] = rw q in
    shown_none (verdict (pre ++ line))
    ∙ ap (λ l'. shown (verdict (pre ++ l')) []) (sym (append-nil line))
    ∙ sym one
    ∙ ap (desk_from pre) (sym (lines_last b l h) ∙ ap lines (sym (append-nil line)))

-- the first Q line begins
begins : (v : Verdict) (cs : List ℕ) → output (begun v) cs ≡ query_answers v (lines (letter_q ∷ cs))
begins (accepted rs) cs = asks rs (letter_q ∷ []) cs (each_cons NoFeed refl (each_nil NoFeed))
begins (refused f n) cs = stops cs

-- the file ends where a Q line begins
from_query : (pre : List ℕ) (ls : List (List ℕ)) → desk_from pre (onto_first letter_q ls) ≡ shown (verdict pre) (onto_first letter_q ls)
from_query pre [] = ap (λ p. shown (verdict p) ((letter_q ∷ []) ∷ [])) (append-nil pre)
from_query pre (l ∷ ls) = ap (λ p. shown (verdict p) ((letter_q ∷ l) ∷ ls)) (append-nil pre)

-- a Q behind whole lines
collect_query : (pre cs : List ℕ) → opens pre ≡ true → output (collecting pre) (letter_q ∷ cs) ≡ desk_from pre (lines (letter_q ∷ cs))
collect_query pre cs o =
    let s : Step = steps (begun (verdict pre)) cs in
    rw o
    (append_assoc (file_line (answer_of (verdict pre))) s.prints (finish s.next)
    ∙ ap (λ ps. file_line (answer_of (verdict pre)) ++ ps) (begins (verdict pre) cs)
    ∙ sym (from_query pre (lines cs)))

-- a test and a false one
pub and_false : (a : Bool) → (a && false) ≡ false
and_false true = refl
and_false false = refl

-- no line begins within a line
opens_within : (l : List ℕ) → Feedless l → opens_from false l ≡ false
opens_within [] h = refl
opens_within (b ∷ l) h = ap (λ x. opens_from x l) (h b (Memᴰ.head refl)) ∙ opens_within l (λ c m. h c (Memᴰ.tail m))

-- no line begins behind one that lacks its line feed
opens_line : (o : Bool) (pre : List ℕ) (b : ℕ) (l : List ℕ) → Feedless (b ∷ l) → opens_from o (pre ++ (b ∷ l)) ≡ false
opens_line o [] b l h = ap (λ x. opens_from x l) (h b (Memᴰ.head refl)) ∙ opens_within l (λ c m. h c (Memᴰ.tail m))
opens_line o (p ∷ pre) b l h = opens_line (eqb p line_feed) pre b l h

-- a line of the file
from_line : (pre line : List ℕ) (ls : List (List ℕ)) → is_query line ≡ false → desk_from (pre ++ line) ls ≡ desk_from pre (line ∷ ls)
from_line pre line ls q = rw q (ap (λ p. shown (verdict p) (query_lines ls)) (append_assoc pre line (concat (file_lines ls))))

-- The bytes of the file so far: whole lines, none of them a query's, and the line begun.
record Collected (f pre l : List ℕ) : Type 0 where
  all : f ≡ pre ++ l
  whole : opens pre ≡ true
  feedless : Feedless l
  file : is_query l ≡ false

-- a line of the file is none of a query's, ended or not
file_feed : (l : List ℕ) → is_query l ≡ false → is_query (l ++ (line_feed ∷ [])) ≡ false
file_feed [] q = refl
file_feed (b ∷ l) q = q

-- the line ends
collected_feed : {f pre l : List ℕ} → Collected f pre l → Collected (f ++ (line_feed ∷ [])) (pre ++ (l ++ (line_feed ∷ []))) []
collected_feed {f} {pre} {l} c =
    let end : List ℕ = line_feed ∷ [] in
    record {
      all = ap (λ x. x ++ end) c.all ∙ append_assoc pre l end ∙ sym (append-nil (pre ++ (l ++ end)));
      whole = ap opens (sym (append_assoc pre l end)) ∙ opens_append (pre ++ l) line_feed;
      feedless = each_nil NoFeed;
      file = refl;
    }

-- a byte that begins no Q line
file_more : (f pre l : List ℕ) (b : ℕ) → Collected f pre l → (opens f && eqb b letter_q) ≡ false → is_query (l ++ (b ∷ [])) ≡ false
file_more f pre [] b c t =
    let o : opens f ≡ true = ap opens (c.all ∙ append-nil pre) ∙ c.whole in
    ap (λ x. x && eqb b letter_q) (sym o) ∙ t
file_more f pre (x ∷ l) b c t = c.file

-- the line goes on
collected_more :
    {f pre l : List ℕ} (b : ℕ)
    → Collected f pre l
    → eqb b line_feed ≡ false
    → (opens f && eqb b letter_q) ≡ false
    → Collected (f ++ (b ∷ [])) pre (l ++ (b ∷ []))
collected_more {f} {pre} {l} b c n t =
    record {
      all = ap (λ x. x ++ (b ∷ [])) c.all ∙ append_assoc pre l (b ∷ []);
      whole = c.whole;
      feedless = feedless_more l b c.feedless n;
      file = file_more f pre l b c t;
    }

-- a line feed in the file
collect_feed :
    {f pre l : List ℕ} (cs : List ℕ)
    → Collected f pre l
    → output (collecting (f ++ (line_feed ∷ []))) cs ≡ desk_from (pre ++ (l ++ (line_feed ∷ []))) (lines cs)
    → output (collecting f) (line_feed ∷ cs) ≡ desk_from pre (lines (l ++ (line_feed ∷ cs)))
collect_feed {f} {pre} {l} cs c rest =
    rw (and_false (opens f))
    (rest ∙ from_line pre (l ++ (line_feed ∷ [])) (lines cs) (file_feed l c.file) ∙ ap (desk_from pre) (sym (lines_feed l cs c.feedless)))

-- a Q where a line begins
collect_close :
    {f pre : List ℕ} (l cs : List ℕ)
    → Collected f pre l
    → opens f ≡ true
    → output (collecting f) (letter_q ∷ cs) ≡ desk_from pre (lines (l ++ (letter_q ∷ cs)))
collect_close {f} {pre} [] cs c o = subst (λ x. output (collecting x) (letter_q ∷ cs) ≡ desk_from pre (lines (letter_q ∷ cs))) (sym (c.all ∙ append-nil pre)) (collect_query pre cs c.whole)
collect_close {f} {pre} (b ∷ l) cs c o = absurd (not_both o (ap opens c.all ∙ opens_line true pre b l c.feedless))

-- a state that collects prints what the desk program prints of the file so far and of the lines that follow
collects : (f pre l cs : List ℕ) → Collected f pre l → output (collecting f) cs ≡ desk_from pre (lines (l ++ cs))
collects f pre l [] c = ap (λ x. file_line (answer_of (verdict x))) c.all ∙ collect_end pre l c.feedless c.file
collects f pre l (b ∷ cs) c =
    go (bool_cases (eqb b line_feed)) (bool_cases (opens f && eqb b letter_q))
    (collects (f ++ (b ∷ [])) (pre ++ (l ++ (b ∷ []))) [] cs)
    (collects (f ++ (b ∷ [])) pre (l ++ (b ∷ [])) cs)
  where
    at_feed :
        b ≡ line_feed
        → (Collected (f ++ (b ∷ [])) (pre ++ (l ++ (b ∷ []))) [] → output (collecting (f ++ (b ∷ []))) cs ≡ desk_from (pre ++ (l ++ (b ∷ []))) (lines cs))
        → output (collecting f) (b ∷ cs) ≡ desk_from pre (lines (l ++ (b ∷ cs)))
    at_feed e =
        subst
        (λ x. (Collected (f ++ (x ∷ [])) (pre ++ (l ++ (x ∷ []))) [] → output (collecting (f ++ (x ∷ []))) cs ≡ desk_from (pre ++ (l ++ (x ∷ []))) (lines cs))
        → output (collecting f) (x ∷ cs) ≡ desk_from pre (lines (l ++ (x ∷ cs))))
        (sym e)
        (λ ih. collect_feed cs c (ih (collected_feed c)))

    go :
        (eqb b line_feed ≡ true) ⊎ (eqb b line_feed ≡ false)
        → ((opens f && eqb b letter_q) ≡ true) ⊎ ((opens f && eqb b letter_q) ≡ false)
        → (Collected (f ++ (b ∷ [])) (pre ++ (l ++ (b ∷ []))) [] → output (collecting (f ++ (b ∷ []))) cs ≡ desk_from (pre ++ (l ++ (b ∷ []))) (lines cs))
        → (Collected (f ++ (b ∷ [])) pre (l ++ (b ∷ [])) → output (collecting (f ++ (b ∷ []))) cs ≡ desk_from pre (lines ((l ++ (b ∷ [])) ++ cs)))
        → output (collecting f) (b ∷ cs) ≡ desk_from pre (lines (l ++ (b ∷ cs)))
    go (inl n) u feed more = at_feed (eqb_eq b line_feed n) feed
    go (inr n) (inl t) feed more =
        let both : (opens f ≡ true) × (eqb b letter_q ≡ true) = and_true (opens f) (eqb b letter_q) t in
        subst
        (λ x. output (collecting f) (x ∷ cs) ≡ desk_from pre (lines (l ++ (x ∷ cs))))
        (sym (eqb_eq b letter_q both.1))
        (collect_close l cs c both.0)
    go (inr n) (inr t) feed more = rw t (more (collected_more b c n t) ∙ ap (λ x. desk_from pre (lines x)) (append_assoc l (b ∷ []) cs))

-- The machine prints what the desk program prints.
pub streams : (bs : List ℕ) → (steps (collecting []) bs).prints ++ finish (steps (collecting []) bs).next ≡ desk bs
unfolding desk
streams bs = collects [] [] [] bs (record { all = refl; whole = refl; feedless = each_nil NoFeed; file = refl })

-- ---- where the rest of the input no longer matters

-- behind a refused file nothing is printed
stopped_output : (bs : List ℕ) → output stopped bs ≡ []
stopped_output [] = refl
stopped_output (b ∷ bs) = stopped_output bs

-- of a file that is too long, whatever follows, the refusal is printed
long_output : (f bs : List ℕ) → max_bytes < length f → output (collecting f) bs ≡ finish (collecting f)
long_output f [] h = refl
long_output f (b ∷ bs) h = go (bool_cases (opens f && eqb b letter_q)) (long_output (f ++ (b ∷ [])) bs)
  where
    longer : max_bytes < length (f ++ (b ∷ []))
    longer = omega (arith, h, length-append f (b ∷ []))

    go :
        ((opens f && eqb b letter_q) ≡ true) ⊎ ((opens f && eqb b letter_q) ≡ false)
        → (max_bytes < length (f ++ (b ∷ [])) → output (collecting (f ++ (b ∷ []))) bs ≡ finish (collecting (f ++ (b ∷ []))))
        → output (collecting f) (b ∷ bs) ≡ finish (collecting f)
    go (inl t) rest =
        let v : verdict f ≡ refused too_long 0 = verdict_long f h in
        rw t
        (append_assoc (file_line (answer_of (verdict f))) (steps (begun (verdict f)) bs).prints (finish (steps (begun (verdict f)) bs).next)
        ∙ ap (λ x. file_line (answer_of (verdict f)) ++ output (begun x) bs) v
        ∙ ap (λ ps. file_line (answer_of (verdict f)) ++ ps) (stopped_output bs)
        ∙ append-nil (file_line (answer_of (verdict f))))
    go (inr t) rest = rw t (rest longer ∙ finish_cap (f ++ (b ∷ [])) f longer h)

-- from a settled state on the same is printed, whatever follows
pub settled_output : (s : State) → settled s ≡ true → (bs : List ℕ) → output s bs ≡ finish s
settled_output (collecting f) e bs = long_output f bs (ltb_lt max_bytes (length f) e)
settled_output (asking rs l) e bs = absurd (not_both e refl)
settled_output stopped e bs = stopped_output bs

-- So whoever stops reading there prints what the desk program prints of all of the input, whatever it goes on with.
pub settled_desk : (xs ys : List ℕ) → settled (steps (collecting []) xs).next ≡ true
    → (steps (collecting []) xs).prints ++ finish (steps (collecting []) xs).next ≡ desk (xs ++ ys)
settled_desk xs ys e =
    let s : State = (steps (collecting []) xs).next in
    let p : List ℕ = (steps (collecting []) xs).prints in
    ap (λ o. p ++ o) (sym (settled_output s e ys))
    ∙ sym (append_assoc p (steps s ys).prints (finish (steps s ys).next))
    ∙ ap₂ (λ a n. a ++ finish n) (sym (prints_append (collecting []) xs ys)) (sym (next_append (collecting []) xs ys))
    ∙ streams (xs ++ ys)

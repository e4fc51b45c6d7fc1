-- Lines with other endings: what is read of them, and that they are the lines of the bytes that they make up.
use Prim.Native.Nat.{ℕ, suc}
use native.Mathlib.Omega.{arith}
use mathlib.Core.Path.{◌≡◌, refl, sym, ap, ap₂, ◌∙◌, subst}
use mathlib.Core.Logic.{◌⊎◌, inl, inr}
use mathlib.Core.Bool.{Bool, true, false, cond, ◌&&◌, ◌||◌}
use mathlib.Core.Option.{Option, none, some}
use mathlib.Core.List.Memᴰ
use mathlib.Core.List.{List, [], ◌∷◌, ◌++◌, append_assoc, append-nil}
use lib.Dec.{eqb}
use lib.ListN.{length, drop}
use Rattle.limits.specs.Limits.{line_feed, carriage_return}
use Rattle.calculus.specs.Tools.{◌>>=◌, concat}
use Rattle.format.specs.Lines.{Row, onto_first, lines, is_ending, text, row_in, row_of}
use Rattle.format.specs.Judge.{Seen, judge, after, on_row, on_judged, with_row, read_from}
use Rattle.model.specs.Desk.{is_query, file_lines, query_lines}
use Rattle.calculus.proofs.Basic.{bind_some, bool_cases, eqb_eq, not_both, neither, some_inj, each_nil, each_cons, each_append}
use Rattle.format.proofs.Endings.{feed, both, Ended, by_feed, by_both, text_both, text_ended, onto_text}
use Rattle.format.proofs.Printing.{NoFeed, Feedless, lines_feed, concat_lines, lines_last}
use Rattle.law_endings.specs.Resaved.{ends_in_return, with_ending, line_with, resave_lines, resave, SameLine, same, ended, SameLines, done, next, Resaved}

-- ---- reading

-- a line and the same line with another ending have one text, and so one row
pub text_same : {l m : List ℕ} → SameLine l m → text l ≡ text m
text_same (same e) = ap text e
text_same (ended t p q) = p ∙ sym q

pub row_same : {l m : List ℕ} → SameLine l m → row_of l ≡ row_of m
row_same {l} {m} h = ap (λ t. t >>= row_in) (text_same h)

-- both are read alike, below any rows
pub read_same : (s : Seen) (n : ℕ) {ls ms : List (List ℕ)} → SameLines ls ms → read_from s n ls ≡ read_from s n ms
read_same s n done = refl
read_same s n {ls = l ∷ ls} {ms = m ∷ ms} (next h hs) = go (row_of m) (row_same h) (λ r. read_same (after s r) (suc n) hs)
  where
    go : (o : Option Row) → row_of l ≡ o → ((r : Row) → read_from (after s r) (suc n) ls ≡ read_from (after s r) (suc n) ms)
        → on_row n (row_of l) (λ r. on_judged n (judge s r) (λ _. with_row r (read_from (after s r) (suc n) ls)))
        ≡ on_row n o (λ r. on_judged n (judge s r) (λ _. with_row r (read_from (after s r) (suc n) ms)))
    go none p ih = rw p
    go (some r) p ih = rw p (ap (λ o. on_judged n (judge s r) (λ _. with_row r o)) (ih r))

-- there are as many lines
pub count_same : {ls ms : List (List ℕ)} → SameLines ls ms → length ls ≡ length ms
count_same done = refl
count_same (next h hs) = ap suc (count_same hs)

-- ---- the file and the queries behind it

-- whether a line is the first query does not depend on its ending
query_text : {l t : List ℕ} → Ended l t → is_query l ≡ is_query t
query_text {l} {t} (by_feed e) = ap is_query e ∙ first t
  where
    first : (t : List ℕ) → is_query (t ++ feed) ≡ is_query t
    first [] = refl
    first (b ∷ t) = refl
query_text {l} {t} (by_both e) = ap is_query e ∙ first t
  where
    first : (t : List ℕ) → is_query (t ++ both) ≡ is_query t
    first [] = refl
    first (b ∷ t) = refl

is_query_same : {l m : List ℕ} → SameLine l m → is_query l ≡ is_query m
is_query_same (same e) = ap is_query e
is_query_same {l} {m} (ended t p q) = query_text (text_ended l p) ∙ sym (query_text (text_ended m q))

pub file_same : {ls ms : List (List ℕ)} → SameLines ls ms → SameLines (file_lines ls) (file_lines ms)
file_same done = done
file_same (next {l} {m} {ls} {ms} h hs) = go (bool_cases (is_query m)) (is_query_same h) (file_same hs)
  where
    go : (is_query m ≡ true) ⊎ (is_query m ≡ false) → is_query l ≡ is_query m → SameLines (file_lines ls) (file_lines ms) → SameLines (file_lines (l ∷ ls)) (file_lines (m ∷ ms))
    go (inl t) e ih = rw (e, t) done
    go (inr t) e ih = rw (e, t) (next h ih)

pub queries_same : {ls ms : List (List ℕ)} → SameLines ls ms → SameLines (query_lines ls) (query_lines ms)
queries_same done = done
queries_same (next {l} {m} {ls} {ms} h hs) = go (bool_cases (is_query m)) (is_query_same h) (queries_same hs)
  where
    go : (is_query m ≡ true) ⊎ (is_query m ≡ false) → is_query l ≡ is_query m → SameLines (query_lines ls) (query_lines ms) → SameLines (query_lines (l ∷ ls)) (query_lines (m ∷ ms))
    go (inl t) e ih = rw (e, t) (next h hs)
    go (inr t) e ih = rw (e, t) ih

-- ---- the lines of bytes

-- lines as bytes have them: each ends with its only line feed, but the last may be without one
pub data Split : List (List ℕ) → Type 0 where
  no_line : Split []
  last : {l : List ℕ} (b : ℕ) (bs : List ℕ) → l ≡ b ∷ bs → Feedless (b ∷ bs) → Split (l ∷ [])
  more : {l : List ℕ} {ls : List (List ℕ)} (u : List ℕ) → l ≡ u ++ feed → Feedless u → Split ls → Split (l ∷ ls)

-- the lines of any bytes are such
onto_split : (b : ℕ) → NoFeed b → {ls : List (List ℕ)} → Split ls → Split (onto_first b ls)
onto_split b h no_line = last b [] refl (each_cons NoFeed h (each_nil NoFeed))
onto_split b h (last c bs e k) = last b (c ∷ bs) (ap (λ x. b ∷ x) e) (each_cons NoFeed h k)
onto_split b h (more u e k s) = more (b ∷ u) (ap (λ x. b ∷ x) e) (each_cons NoFeed h k) s

pub lines_split : (bs : List ℕ) → Split (lines bs)
lines_split [] = no_line
lines_split (b ∷ bs) = go (bool_cases (eqb b line_feed)) (lines_split bs)
  where
    go : (eqb b line_feed ≡ true) ⊎ (eqb b line_feed ≡ false) → Split (lines bs) → Split (lines (b ∷ bs))
    go (inl t) s = rw t (more [] (ap (λ x. x ∷ []) (eqb_eq b line_feed t)) (each_nil NoFeed) s)
    go (inr t) s = rw t (onto_split b t s)

-- and such lines are those of the bytes that they make up
pub split_lines : {ls : List (List ℕ)} → Split ls → lines (concat ls) ≡ ls
split_lines no_line = refl
split_lines (last {l} b bs e h) = ap (λ x. lines (x ++ [])) e ∙ ap lines (append-nil (b ∷ bs)) ∙ lines_last b bs h ∙ ap (λ x. x ∷ []) (sym e)
split_lines (more {l} {ls} u e h s) =
    ap (λ x. lines (x ++ concat ls)) e
    ∙ ap lines (append_assoc u feed (concat ls))
    ∙ lines_feed u (concat ls) h
    ∙ ap₂ ◌∷◌ (sym e) (split_lines s)

-- the lines before the first query are such lines too
pub file_split : {ls : List (List ℕ)} → Split ls → Split (file_lines ls)
file_split no_line = no_line
file_split (last {l} b bs e h) = go (bool_cases (is_query l))
  where
    go : (is_query l ≡ true) ⊎ (is_query l ≡ false) → Split (file_lines (l ∷ []))
    go (inl t) = rw t no_line
    go (inr t) = rw t (last b bs e h)
file_split (more {l} {ls} u e h s) = go (bool_cases (is_query l)) (file_split s)
  where
    go : (is_query l ≡ true) ⊎ (is_query l ≡ false) → Split (file_lines ls) → Split (file_lines (l ∷ ls))
    go (inl t) k = rw t no_line
    go (inr t) k = rw t (more u e h k)

-- ---- texts and endings

-- two bytes and more before a line feed are no ending
no_ending : (b c : ℕ) (t : List ℕ) → is_ending (b ∷ (c ∷ (t ++ feed))) ≡ false
no_ending b c [] = refl
no_ending b c (d ∷ t) = refl

-- a line feed alone ends a text that does not end in a carriage return
pub text_alone : (t : List ℕ) → ends_in_return t ≡ false → text (t ++ feed) ≡ some t
text_alone [] h = refl
text_alone (b ∷ []) h = rw h
text_alone (b ∷ (c ∷ t)) h = onto_text b (c ∷ (t ++ feed)) (no_ending b c t) (text_alone (c ∷ t) h)

-- and no other
pub return_taken : (t : List ℕ) → ends_in_return t ≡ true → text (t ++ feed) ≡ some t → ⊥
return_taken [] h e = not_both h refl
return_taken (b ∷ []) h e = let no_byte : ◌≡◌ {A = ℕ} 0 1 = ap length (some_inj (rw h at e)) in absurd (omega arith)
return_taken (b ∷ (c ∷ t)) h e =
    let (u, p, q) = bind_some (text (c ∷ (t ++ feed))) (λ u. some (b ∷ u)) (rw (no_ending b c t) at e) in
    return_taken (c ∷ t) h (p ∙ ap some (ap (drop 1) (some_inj q)))

-- a text with either ending has itself as its text
pub ending_text : (r : Bool) (t : List ℕ) → text (with_ending r t) ≡ some t
ending_text r t = go (bool_cases (r || ends_in_return t))
  where
    go : ((r || ends_in_return t) ≡ true) ⊎ ((r || ends_in_return t) ≡ false) → text (with_ending r t) ≡ some t
    go (inl h) = ap (λ b. text (t ++ cond b both feed)) h ∙ text_both t
    go (inr h) = ap (λ b. text (t ++ cond b both feed)) h ∙ text_alone t (neither r (ends_in_return t) h).1

-- ---- resaved bytes

same_line : (r : Bool) (l : List ℕ) (o : Option (List ℕ)) → text l ≡ o → SameLine l (line_with r l o)
same_line r l none e = same refl
same_line r l (some t) e = ended t e (ending_text r t)

same_all : (ls : List (List ℕ)) → SameLines ls ls
same_all [] = done
same_all (l ∷ ls) = next (same refl) (same_all ls)

same_resaved : (rs : List Bool) (ls : List (List ℕ)) → SameLines ls (resave_lines rs ls)
same_resaved [] ls = same_all ls
same_resaved (r ∷ rs) [] = done
same_resaved (r ∷ rs) (l ∷ ls) = next (same_line r l (text l) refl) (same_resaved rs ls)

-- bytes without a line feed are no text and its ending
feedless_text : (bs : List ℕ) → Feedless bs → text bs ≡ none
feedless_text [] h = refl
feedless_text (b ∷ bs) h = rw (other bs h, feedless_text bs (λ c m. h c (Memᴰ.tail m)))
  where
    neither_byte : (x y : Bool) → y ≡ false → (x && y) ≡ false
    neither_byte true y e = e
    neither_byte false y e = refl

    other : (bs : List ℕ) → Feedless (b ∷ bs) → is_ending (b ∷ bs) ≡ false
    other [] h = h b (Memᴰ.head refl)
    other (c ∷ []) h = neither_byte (eqb b carriage_return) (eqb c line_feed) (h c (Memᴰ.tail (Memᴰ.head refl)))
    other (c ∷ (d ∷ bs)) h = refl

-- bytes before a line feed: their text has no line feed
feed_text : (u : List ℕ) → Feedless u → (t : List ℕ) × (text (u ++ feed) ≡ some t) × Feedless t
feed_text [] h = ([], refl, h)
feed_text (b ∷ []) h = go (bool_cases (eqb b carriage_return))
  where
    go : (eqb b carriage_return ≡ true) ⊎ (eqb b carriage_return ≡ false) → (t : List ℕ) × (text (b ∷ feed) ≡ some t) × Feedless t
    go (inl t) = ([], (rw t), each_nil NoFeed)
    go (inr t) = (b ∷ [], (rw t), h)
feed_text (b ∷ (c ∷ u)) h =
    let (t, p, k) = feed_text (c ∷ u) (λ d m. h d (Memᴰ.tail m)) in
    (b ∷ t, onto_text b (c ∷ (u ++ feed)) (no_ending b c u) p, each_cons NoFeed (h b (Memᴰ.head refl)) k)

ending_split : (r : Bool) (t : List ℕ) {ls : List (List ℕ)} → Feedless t → Split ls → Split (with_ending r t ∷ ls)
ending_split r t {ls} h s = go (bool_cases (r || ends_in_return t))
  where
    go : ((r || ends_in_return t) ≡ true) ⊎ ((r || ends_in_return t) ≡ false) → Split (with_ending r t ∷ ls)
    go (inl e) = rw e (more (t ++ (carriage_return ∷ [])) (sym (append_assoc t (carriage_return ∷ []) feed)) (each_append NoFeed t h (each_cons NoFeed refl (each_nil NoFeed))) s)
    go (inr e) = rw e (more t refl h s)

resave_nil : (rs : List Bool) → [] ≡ resave_lines rs []
resave_nil [] = refl
resave_nil (r ∷ rs) = refl

resave_split : (rs : List Bool) {ls : List (List ℕ)} → Split ls → Split (resave_lines rs ls)
resave_split [] s = s
resave_split (r ∷ rs) no_line = no_line
resave_split (r ∷ rs) (last {l} b bs e h) =
    subst
    (λ o. Split (line_with r l o ∷ resave_lines rs []))
    (sym (ap text e ∙ feedless_text (b ∷ bs) h))
    (subst (λ ls. Split (l ∷ ls)) (resave_nil rs) (last b bs e h))
resave_split (r ∷ rs) (more {l} {ls} u e h s) =
    let (t, p, k) = feed_text u h in
    subst (λ o. Split (line_with r l o ∷ resave_lines rs ls)) (sym (ap text e ∙ p)) (ending_split r t k (resave_split rs s))

-- The same bytes with other endings, chosen for each line, are the same but for the endings of their lines.
pub resave_resaved : (rs : List Bool) (bs : List ℕ) → Resaved bs (resave rs bs)
resave_resaved rs bs = subst (SameLines (lines bs)) (sym (split_lines (resave_split rs (lines_split bs)))) (same_resaved rs (lines bs))

by_text : (m t : List ℕ) → text m ≡ some t → (r : Bool) × (m ≡ with_ending r t)
by_text m t e = go (text_ended m e)
  where
    go : Ended m t → (r : Bool) × (m ≡ with_ending r t)
    go (by_both p) = (true, p)
    go (by_feed p) = (false, p ∙ alone (bool_cases (ends_in_return t)))
      where
        alone : (ends_in_return t ≡ true) ⊎ (ends_in_return t ≡ false) → t ++ feed ≡ with_ending false t
        alone (inl h) = absurd (return_taken t h (sym (ap text p) ∙ e))
        alone (inr h) = rw h

-- a line that is the same but for its ending gets that ending by a choice
chosen : (l m : List ℕ) → SameLine l m → (r : Bool) × (m ≡ line_with r l (text l))
chosen l m (same e) = go (text l) refl
  where
    go : (o : Option (List ℕ)) → text l ≡ o → (r : Bool) × (m ≡ line_with r l o)
    go none p = (false, sym e)
    go (some t) p = by_text m t (sym (ap text e) ∙ p)
chosen l m (ended t p q) = let (r, e) = by_text m t q in (r, e ∙ ap (line_with r l) (sym p))

chosen_all : {ls ms : List (List ℕ)} → SameLines ls ms → (rs : List Bool) × (ms ≡ resave_lines rs ls)
chosen_all done = ([], refl)
chosen_all (next {l} {m} h hs) =
    let (r, p) = chosen l m h in
    let (rs, q) = chosen_all hs in
    (r ∷ rs, ap₂ ◌∷◌ p q)

-- And there are no others.
pub resaved_resave : (bs cs : List ℕ) → Resaved bs cs → (rs : List Bool) × (cs ≡ resave rs bs)
resaved_resave bs cs h = let (rs, e) = chosen_all h in (rs, sym (concat_lines cs) ∙ ap concat e)

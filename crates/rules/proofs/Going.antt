-- The lengths of the areas that the loops lend, and the state behind what was read.
use Prim.Native.Nat.{ℕ, ◌+◌, ◌-◌, ◌≤◌, ◌<◌}
use native.Mathlib.Omega.{arith}
use mathlib.Core.Path.{◌≡◌, refl, sym, ap, ◌∙◌, subst}
use mathlib.Core.Bool.{Bool, true, false}
use mathlib.Core.List.{List, [], ◌++◌}
use lib.ListN.{length, take, drop, length-drop}
use lib.Seq.{take-add, take_all}
use Rattle.query_lines.specs.Stream.{State, collecting, steps, settled}
use Rattle.query_lines.proofs.Streaming.{next_append}
use Rattle.desk.specs.DeskSays.{DeskAt, Took, FeedSays}
use Rattle.desk.specs.declared.Desk as D
use Rattle.desk.specs.declared.Fed as F
use Rattle.rules.specs.Running.{Lent, Ready, TookAll, ChunkSays, Kept, InputSays, Reached}
use Rattle.stdio.specs.declared.Input as I
use Rattle.stdio.specs.declared.Input.TheVariants as inputs
use Rattle.rules.specs.declared.Progress as P
use Rattle.rules.specs.declared.Progress.TheVariants as progress

-- ---- lengths

pub record Lengths (f₀ l₀ t₀ w₀ i₀ o₀ f l t w i o : List ℕ) : Type 0 where
  pub file : length f ≡ length f₀
  pub line : length l ≡ length l₀
  pub table : length t ≡ length t₀
  pub work : length w ≡ length w₀
  pub index : length i ≡ length i₀
  pub out : length o ≡ length o₀

pub lengths_start : (f l t w i o : List ℕ) → Lengths f l t w i o f l t w i o
lengths_start f l t w i o = record { file = refl; line = refl; table = refl; work = refl; index = refl; out = refl }

pub lengths_next : {f₀ l₀ t₀ w₀ i₀ o₀ f l t w i o f' l' t' w' i' o' : List ℕ} → Lengths f₀ l₀ t₀ w₀ i₀ o₀ f l t w i o → Lengths f l t w i o f' l' t' w' i' o'
    → Lengths f₀ l₀ t₀ w₀ i₀ o₀ f' l' t' w' i' o'
lengths_next a b =
    record {
      file = b.file ∙ a.file;
      line = b.line ∙ a.line;
      table = b.table ∙ a.table;
      work = b.work ∙ a.work;
      index = b.index ∙ a.index;
      out = b.out ∙ a.out;
    }

-- areas that keep their lengths stay long enough
pub lent_kept : {f₀ l₀ t₀ w₀ i₀ o₀ f l t w i o : List ℕ} → Lengths f₀ l₀ t₀ w₀ i₀ o₀ f l t w i o → Lent f₀ l₀ t₀ w₀ i₀ o₀ → Lent f l t w i o
lent_kept k r =
    record {
      roomy =
          record {
            files = omega (arith, k.file, r.roomy.files);
            lines = omega (arith, k.line, r.roomy.lines);
            tables = omega (arith, k.table, r.roomy.tables);
            works = omega (arith, k.work, r.roomy.works);
            indices = omega (arith, k.index, r.roomy.indices);
          };
      room = omega (arith, k.out, r.room);
    }

-- ---- a chunk

-- What the loop over a chunk knows: the state is that behind the bytes taken so far.
pub record Feeds (chunk f₀ l₀ t₀ w₀ i₀ o₀ : List ℕ) (d₀ : D.Desk) (f l t w i o : List ℕ) (d : D.Desk) (at : ℕ) : Type 0 where
  pub lengths : Lengths f₀ l₀ t₀ w₀ i₀ o₀ f l t w i o
  pub within : at ≤ length chunk
  pub fed : (s : State) → DeskAt d₀ f₀ l₀ t₀ i₀ s → DeskAt d f l t i (steps s (take at chunk)).next

pub feeds_start : (chunk f l t w i o : List ℕ) (d : D.Desk) → Feeds chunk f l t w i o d f l t w i o d 0
feeds_start chunk f l t w i o d = record { lengths = lengths_start f l t w i o; within = omega arith; fed = λ s h. h }

module _ {chunk f₀ l₀ t₀ w₀ i₀ o₀ : List ℕ} {d₀ : D.Desk} {f l t w i o : List ℕ} {d : D.Desk} {at : ℕ} (k : Feeds chunk f₀ l₀ t₀ w₀ i₀ o₀ d₀ f l t w i o d at)
    (ready : Ready d₀ f₀ l₀ t₀ w₀ i₀ o₀) {part f' l' t' w' i' o' : List ℕ} (r : F.Fed) (e : part ≡ drop at chunk) (left : at < length chunk)
    (fed : Took d part f l t w i o f' l' t' w' i' o' r × FeedSays d part f l t w i o f' l' t' i' o' r) where
  lent : Lent f l t w i o
  lent = lent_kept k.lengths ready.lent

  -- the rest of the chunk
  rest : length part ≡ length chunk - at
  rest = ap length e ∙ length-drop at chunk

  -- at least a byte of it is taken
  some_taken : 0 < r.taken
  some_taken = fed.0.progress (omega (arith, rest)) lent.room

  pub fed_within : at + r.taken ≤ length chunk
  fed_within = let within = fed.0.within in omega (arith, within, rest)

  pub fed_less : length chunk - (at + r.taken) < length chunk - at
  fed_less = let within = fed.0.within in omega (arith, some_taken, within, rest)

  pub fed_next : Lengths f l t w i o f' l' t' w' i' o' → Feeds chunk f₀ l₀ t₀ w₀ i₀ o₀ d₀ f' l' t' w' i' o' r.desk (at + r.taken)
  fed_next same =
      record {
        lengths = lengths_next k.lengths same;
        within = fed_within;
        fed = λ s h.
            let both : take (at + r.taken) chunk ≡ take at chunk ++ take r.taken part = take-add at r.taken chunk ∙ ap (λ x. take at chunk ++ take r.taken x) (sym e) in
            subst (DeskAt r.desk f' l' t' i')
            (sym (ap (λ bs. (steps s bs).next) both ∙ next_append s (take at chunk) (take r.taken part)))
            (fed.1 _ (k.fed s h) lent.roomy).desk;
      }

-- ---- more or not

module _ (d : D.Desk) {b : Bool} (same : (file line table index : List ℕ) (s : State) → DeskAt d file line table index s → b ≡ settled s) where
  pub done_behind : b ≡ true → (file line table index : List ℕ) (s : State) → DeskAt d file line table index s → TookAll s file line table index (progress.Done d)
  done_behind t file line table index s h = (h, sym (same file line table index s h) ∙ t)

  pub more_behind : b ≡ false → (file line table index : List ℕ) (s : State) → DeskAt d file line table index s → TookAll s file line table index (progress.More d)
  more_behind t file line table index s h = (h, sym (same file line table index s h) ∙ t)

-- the whole chunk is taken
pub fed_all : {chunk f₀ l₀ t₀ w₀ i₀ o₀ : List ℕ} {d₀ : D.Desk} {f l t w i o : List ℕ} {d : D.Desk} {at : ℕ} (p : P.Progress)
    → Feeds chunk f₀ l₀ t₀ w₀ i₀ o₀ d₀ f l t w i o d at → length chunk ≤ at
    → ((file line table index : List ℕ) (s : State) → DeskAt d file line table index s → TookAll s file line table index p)
    → ChunkSays d₀ chunk f₀ l₀ t₀ i₀ f l t i p
fed_all {chunk} {f = f} {l} {t} {w} {i} {at = at} p k done take' s h =
    subst (λ bs. TookAll (steps s bs).next f l t i p) (take_all at chunk done) (take' f l t i _ (k.fed s h))

-- ---- a read

-- behind a chunk
reached_some : {f l t w i o : List ℕ} (bs chunk : List ℕ) (p : P.Progress) → Lent f l t w i o
    → TookAll (steps (steps (collecting []) bs).next chunk).next f l t i p → Reached f l t w i o p
reached_some {f} {l} {t} {w} {i} {o} bs chunk (progress.More d) r h =
    record { bytes = bs ++ chunk; desk = subst (DeskAt d f l t i) (sym (next_append (collecting []) bs chunk)) h.0; lent = r }
reached_some {f} {l} {t} {w} {i} {o} bs chunk (progress.Done d) r h =
    record { bytes = bs ++ chunk; desk = subst (DeskAt d f l t i) (sym (next_append (collecting []) bs chunk)) h.0; lent = r }
reached_some bs chunk progress.Failed r h = tt

pub reached_chunk : {f₀ l₀ t₀ w₀ i₀ o₀ f l t w i o : List ℕ} {d₀ : D.Desk} (chunk : List ℕ) (p : P.Progress) → Ready d₀ f₀ l₀ t₀ w₀ i₀ o₀
    → Lengths f₀ l₀ t₀ w₀ i₀ o₀ f l t w i o → ChunkSays d₀ chunk f₀ l₀ t₀ i₀ f l t i p → Reached f l t w i o p
reached_chunk chunk p ready same took = reached_some ready.bytes chunk p (lent_kept same ready.lent) (took _ ready.desk)

-- ---- what a read gave

same_areas : (f l t x : List ℕ) → Kept f l t x f l t x
same_areas f l t x = record { files = refl; lines = refl; tables = refl; indices = refl }

pub input_bytes : (d : D.Desk) (i : I.Input) (chunk f l t x f' l' t' x' : List ℕ) (r : P.Progress) {n : ℕ} {part : List ℕ} → i ≡ inputs.Bytes n → part ≡ take n chunk
    → ChunkSays d part f l t x f' l' t' x' r → InputSays d i chunk f l t x f' l' t' x' r
input_bytes d i chunk f l t x f' l' t' x' r e p h =
    subst (λ j. InputSays d j chunk f l t x f' l' t' x' r) (sym e) (subst (λ bs. ChunkSays d bs f l t x f' l' t' x' r) p h)

module _ (d : D.Desk) (i : I.Input) (chunk f l t x : List ℕ) where
  pub input_again : i ≡ inputs.Again → InputSays d i chunk f l t x f l t x (progress.More d)
  input_again e = subst (λ j. InputSays d j chunk f l t x f l t x (progress.More d)) (sym e) (refl, same_areas f l t x)

  pub input_end : i ≡ inputs.End → InputSays d i chunk f l t x f l t x (progress.Done d)
  input_end e = subst (λ j. InputSays d j chunk f l t x f l t x (progress.Done d)) (sym e) (refl, same_areas f l t x)

  pub input_failed : i ≡ inputs.Failed → InputSays d i chunk f l t x f l t x progress.Failed
  input_failed e = subst (λ j. InputSays d j chunk f l t x f l t x progress.Failed) (sym e) refl

kept_ready : {f₀ l₀ t₀ w₀ i₀ o₀ f l t w i o : List ℕ} {d : D.Desk} → Kept f₀ l₀ t₀ i₀ f l t i → Lengths f₀ l₀ t₀ w₀ i₀ o₀ f l t w i o → Ready d f₀ l₀ t₀ w₀ i₀ o₀ → Ready d f l t w i o
kept_ready {f₀} {l₀} {t₀} {w₀} {i₀} {o₀} {f} {l} {t} {w} {i} {o} {d} k same ready =
    record {
      bytes = ready.bytes;
      desk =
          let s : State = (steps (collecting []) ready.bytes).next in
          subst (λ x. DeskAt d x l t i s) (sym k.files)
          (subst (λ x. DeskAt d f₀ x t i s) (sym k.lines)
          (subst (λ x. DeskAt d f₀ l₀ x i s) (sym k.tables) (subst (λ x. DeskAt d f₀ l₀ t₀ x s) (sym k.indices) ready.desk)));
      lent = lent_kept same ready.lent;
    }

pub reached_input : {f₀ l₀ t₀ w₀ i₀ o₀ f l t w i o : List ℕ} {d₀ : D.Desk} (input : I.Input) (chunk : List ℕ) (p : P.Progress) → Ready d₀ f₀ l₀ t₀ w₀ i₀ o₀
    → Lengths f₀ l₀ t₀ w₀ i₀ o₀ f l t w i o → InputSays d₀ input chunk f₀ l₀ t₀ i₀ f l t i p → Reached f l t w i o p
reached_input (inputs.Bytes n) chunk p ready same h = reached_chunk (take n chunk) p ready same h
reached_input {f = f} {l} {t} {w} {i} {o} inputs.Again chunk p ready same h = subst (Reached f l t w i o) (sym h.0) (kept_ready h.1 same ready)
reached_input {f = f} {l} {t} {w} {i} {o} inputs.End chunk p ready same h = subst (Reached f l t w i o) (sym h.0) (kept_ready h.1 same ready)
reached_input {f = f} {l} {t} {w} {i} {o} inputs.Failed chunk p ready same h = subst (Reached f l t w i o) (sym h) tt

-- before the first read
pub ready_start : {d : D.Desk} {f l t w i o : List ℕ} → ((file line table index : List ℕ) → DeskAt d file line table index (collecting [])) → Lent f l t w i o → Ready d f l t w i o
ready_start {f = f} {l} {t} {w} {i} h r = record { bytes = []; desk = h f l t i; lent = r }

-- behind one that goes on, or is the last
pub ready_more : {f l t w i o : List ℕ} (p : P.Progress) {d : D.Desk} → p ≡ progress.More d → Reached f l t w i o p → Ready d f l t w i o
ready_more {f} {l} {t} {w} {i} {o} p e h = subst (Reached f l t w i o) e h

pub ready_done : {f l t w i o : List ℕ} (p : P.Progress) {d : D.Desk} → p ≡ progress.Done d → Reached f l t w i o p → Ready d f l t w i o
ready_done {f} {l} {t} {w} {i} {o} p e h = subst (Reached f l t w i o) e h

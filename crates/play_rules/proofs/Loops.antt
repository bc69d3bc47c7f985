-- for crates above: the loops of a driver, under any rules
use Rattle.std.proofs.Common.{◌≡◌, ℕ, zero, suc, ◌+◌, ◌-◌, ◌<◌, ◌≤◌, List, [], ◌∷◌, Bool, true, false, Option, Some, None, sym, ap, ◌∙◌, arith, ◌++◌, append-nil, if◌then◌else◌}
use Rattle.std.specs.FinSet as set
use Rattle.std.specs.Prelude.{drop, filter, length}
use Rattle.std.specs.List.{range_with_len}
use Rattle.std.specs.Ordering.{nat_cmp}
use Rattle.std.specs.Cmp.{nat_cmp_total}
use Rattle.std.proofs.lemmas.List.Elements.{filter-append}
use Rattle.std.proofs.Common.{get_or}
use Rattle.std.proofs.lemmas.List.{drop_all, drop_more}
use Rattle.wheel_core.specs.declared.item.Item.{Item}
use Rattle.tm_report.specs.declared.lines.Line.TheVariants as lines
use Rattle.tm_script.specs.declared.syntax.Op.{Op}
use Rattle.play_rules.specs.declared.asks.Answerer.{Answerer}
use Rattle.play_rules.specs.declared.asks.Mover.{Mover}
use Rattle.play_rules.specs.declared.asks.Queued.{Queued}
use Rattle.play_rules.specs.Machines.{after_move}
use Rattle.play_rules.specs.Tallies.{tallied}
use Rattle.tm_report.specs.Lines.{line_text}
use Rattle.std.specs.Option.{option_map}
use Rattle.std.proofs.lemmas.Option.{none-some, same_Some}
use Rattle.play_rules.specs.Rules.{Moved, Rules}
use Rattle.play_rules.specs.Parts.{Played, Prints, Progress, lines_told, printing}
use Rattle.play_rules.specs.Operations.{cover_lines, moves, operation, operations}
use Rattle.play_rules.specs.Moments.{left}
use Rattle.play_rules.specs.Interrupts.{Replies, cpu_id, timer_id, interrupt_where, interrupts, look, looks, run_job, run_jobs, try}
use Rattle.play_rules.proofs.Plays.{Continues, continues_end, continues_then, prints_at, prints_line}

below : (n i : ℕ) → i < n → n - i ≡ suc (n - (i + 1))
below n i low = omega arith

past : (n i : ℕ) → n ≤ i → n - i ≡ zero
past n i high = omega arith

module _ {S : Type 0} (jobs : Replies) (r : Rules S) where
  pub jobs_more : (home runner i : ℕ) (item : Item) (items : List Item) (whole : Played S) (old mid new : Progress) (s next : S)
      → Continues (run_jobs jobs r home runner (drop i items) s) mid whole old → i < length items
      → Prints (run_job jobs r home runner (get_or items i item) s) mid new next
      → Continues (run_jobs jobs r home runner (drop (i + 1) items) next) new whole old
  unfolding run_jobs
  jobs_more home runner i item items whole old mid new s next rest low done =
      let there = rw (drop_more items i item low) at rest in
      continues_then (run_job jobs r home runner (get_or items i item) s) (run_jobs jobs r home runner (drop (i + 1) items)) whole old mid new next there done

  pub jobs_all : (home runner i : ℕ) (items : List Item) (whole : Played S) (old new : Progress) (s : S)
      → Continues (run_jobs jobs r home runner (drop i items) s) new whole old → length items ≤ i → Prints whole old new s
  unfolding run_jobs
  jobs_all home runner i items whole old new s rest high =
      continues_end s whole old new (rw (drop_all i items high) at rest)

  pub looked_more : (n i c level : ℕ) (tried : set.FinSet _) (whole : Played S) (old mid new : Progress) (s next : S) (d : ℕ)
      → Continues (look jobs r (n - i) c level tried s) mid whole old → i < n → r.named s c level tried ≡ Some d
      → Prints (try jobs r c d s) mid new next
      → Continues (look jobs r (n - (i + 1)) c level (set.insert tried d) next) new whole old
  unfolding look
  looked_more n i c level tried whole old mid new s next d rest low is done =
      let there = rw (below n i low, is) at rest in
      continues_then (try jobs r c d s) (look jobs r (n - (i + 1)) c level (set.insert tried d)) whole old mid new next there done

  pub looked_none : (n i c level : ℕ) (tried : set.FinSet _) (whole : Played S) (old new : Progress) (s : S)
      → Continues (look jobs r (n - i) c level tried s) new whole old → i < n → r.named s c level tried ≡ None → Prints whole old new s
  unfolding look
  looked_none n i c level tried whole old new s rest low none = continues_end s whole old new (rw (below n i low, none) at rest)

  pub looked_all : (n i c level : ℕ) (tried : set.FinSet _) (whole : Played S) (old new : Progress) (s : S)
      → Continues (look jobs r (n - i) c level tried s) new whole old → n ≤ i → Prints whole old new s
  unfolding look
  looked_all n i c level tried whole old new s rest high = continues_end s whole old new (rw (past n i high) at rest)

  pub looks_more : (n i c cpus : ℕ) (whole : Played S) (old mid new : Progress) (s next : S)
      → Continues (looks jobs r (n - i) c i s) mid whole old → i < n → r.looks_after s c i ≡ true
      → r.cpus s ≡ cpus
      → Prints (look jobs r cpus c i set.empty s) mid new next
      → Continues (looks jobs r (n - (i + 1)) c (i + 1) next) new whole old
  unfolding looks
  looks_more n i c cpus whole old mid new s next rest low is all done =
      let there = rw (below n i low, is, all) at rest in
      continues_then (look jobs r cpus c i set.empty s) (looks jobs r (n - (i + 1)) c (i + 1)) whole old mid new next there done

  pub looks_stop : (n i c : ℕ) (whole : Played S) (old new : Progress) (s : S)
      → Continues (looks jobs r (n - i) c i s) new whole old → i < n → r.looks_after s c i ≡ false → Prints whole old new s
  unfolding looks
  looks_stop n i c whole old new s rest low is = continues_end s whole old new (rw (below n i low, is) at rest)

  pub looks_all : (n i c : ℕ) (whole : Played S) (old new : Progress) (s : S)
      → Continues (looks jobs r (n - i) c i s) new whole old → n ≤ i → Prints whole old new s
  unfolding looks
  looks_all n i c whole old new s rest high = continues_end s whole old new (rw (past n i high) at rest)

  pub interrupted_more : (n i : ℕ) (due : set.FinSet _) (whole : Played S) (old mid new : Progress) (s next : S)
      → Continues (interrupts jobs r (n - i) i due s) mid whole old → i < n
      → Prints (interrupt_where jobs r (set.contains due i) i s) mid new next
      → Continues (interrupts jobs r (n - (i + 1)) (i + 1) due next) new whole old
  unfolding interrupts
  interrupted_more n i due whole old mid new s next rest low done =
      continues_then (interrupt_where jobs r (set.contains due i) i s) (interrupts jobs r (n - (i + 1)) (i + 1) due) whole old mid new next (rw (below n i low) at rest) done

  pub interrupted_all : (n i : ℕ) (due : set.FinSet _) (whole : Played S) (old new : Progress) (s : S)
      → Continues (interrupts jobs r (n - i) i due s) new whole old → n ≤ i → Prints whole old new s
  unfolding interrupts
  interrupted_all n i due whole old new s rest high = continues_end s whole old new (rw (past n i high) at rest)

-- THE CPUS that have an interrupt, one number more
range_suc : (a n : ℕ) → range_with_len a (suc n) ≡ range_with_len a n ++ (a + n) ∷ []
range_suc a zero = let same : a ≡ a + 0 = omega arith in ap (λ k. k ∷ []) same
range_suc a (suc n) =
    let same : (a + 1) + n ≡ a + suc n = omega arith in
    ap (λ ks. a ∷ ks) (range_suc (a + 1) n ∙ ap (λ k. range_with_len (a + 1) n ++ k ∷ []) same)

pub range_more : (n : ℕ) → range_with_len 0 (n + 1) ≡ range_with_len 0 n ++ n ∷ []
range_more n =
    let next : n + 1 ≡ suc n = omega arith in
    let last : 0 + n ≡ n = omega arith in
    ap (range_with_len 0) next ∙ range_suc 0 n ∙ ap (λ k. range_with_len 0 n ++ k ∷ []) last

filter_push : (p : ℕ → Bool) (ks : List ℕ) (k : ℕ) (b : Bool) → p k ≡ b → filter p (ks ++ k ∷ []) ≡ filter p ks ++ (if b then k ∷ [] else [])
filter_push p ks k b is = filter-append p ks (k ∷ []) ∙ ap (λ t. filter p ks ++ (if t then k ∷ [] else [])) is

module _ (p : ℕ → Bool) (n : ℕ) (old new : set.FinSet nat_cmp) where
  abbrev members : ℕ → set.FinSet nat_cmp
  members k = set.from_list (filter p (range_with_len 0 k))

  pub member_more : old ≡ members n → p n ≡ true → new ≡ set.insert old n → new ≡ members (n + 1)
  member_more so_far is added =
      added
      ∙ ap (λ s. set.insert s n) so_far
      ∙ sym (set.from_list_push nat_cmp_total set.nat_cmp-IsAntisymmetric (filter p (range_with_len 0 n)) n)
      ∙ ap set.from_list (sym (ap (filter p) (range_more n) ∙ filter_push p (range_with_len 0 n) n true is))

  pub member_less : old ≡ members n → p n ≡ false → new ≡ old → new ≡ members (n + 1)
  member_less so_far is same =
      same ∙ so_far
      ∙ ap set.from_list (sym (ap (filter p) (range_more n) ∙ filter_push p (range_with_len 0 n) n false is ∙ append-nil (filter p (range_with_len 0 n))))

-- OPERATIONS and what comes behind them
module _ {S : Type 0} (r : Rules S) where
  pub operations_more : (i : ℕ) (o : Op) (os : List Op) (whole : Played S) (old mid new : Progress) (s next : S)
      → Continues (operations r (drop i os) s) mid whole old → i < length os
      → Prints (operation r (get_or os i o) s) mid new next
      → Continues (operations r (drop (i + 1) os) next) new whole old
  unfolding operations
  operations_more i o os whole old mid new s next rest low done =
      let there = rw (drop_more os i o low) at rest in
      continues_then (operation r (get_or os i o) s) (operations r (drop (i + 1) os)) whole old mid new next there done

  pub operations_all : (i : ℕ) (os : List Op) (whole : Played S) (old new : Progress) (s : S)
      → Continues (operations r (drop i os) s) new whole old → length os ≤ i → Prints whole old new s
  unfolding operations
  operations_all i os whole old new s rest high = continues_end s whole old new (rw (drop_all i os high) at rest)

  pub moves_more : (n i from to now : ℕ) (v : Mover) (o : Option (Moved S)) (whole : Played S) (old mid new : Progress) (s next : S)
      → Continues (moves r (n - i) from to s) mid whole old → i < n → r.moved s from to ≡ o → option_map (λ m. m.mover) o ≡ Some v
      → next ≡ after_move o s → now ≡ r.clock s
      → new.text ≡ mid.text ++ line_text (lines.Moved now v.timer (cpu_id from) (cpu_id to) v.wheel)
      → new.tally ≡ tallied mid.tally (lines.Moved now v.timer (cpu_id from) (cpu_id to) v.wheel) → new.work ≡ mid.work
      → Continues (moves r (n - (i + 1)) from to next) new whole old
  unfolding moves
  moves_more n i from to now v None whole old mid new s next rest low is mover state clock text tally work = absurd (none-some v mover)
  moves_more n i from to now v (Some m) whole old mid new s next rest low is mover state clock text tally work =
      let same : m.mover ≡ v = same_Some m.mover v mover in
      let line = lines.Moved (r.clock s) m.mover.timer (cpu_id from) (cpu_id to) m.mover.wheel in
      let told : lines.Moved now v.timer (cpu_id from) (cpu_id to) v.wheel ≡ line = λ k. lines.Moved (clock k) ((sym same) k).timer (cpu_id from) (cpu_id to) ((sym same) k).wheel in
      let there = rw (below n i low, is) at rest in
      let done = prints_line line m.state mid new (text ∙ ap (λ l. mid.text ++ line_text l) told) (tally ∙ ap (tallied mid.tally) told) work in
      continues_then (printing line m.state) (moves r (n - (i + 1)) from to) whole old mid new next there
      (prints_at (printing line m.state) mid new m.state next state done)

  pub moves_none : (n i from to : ℕ) (o : Option (Moved S)) (whole : Played S) (old now : Progress) (s next : S)
      → Continues (moves r (n - i) from to s) now whole old → i < n → r.moved s from to ≡ o → option_map (λ m. m.mover) o ≡ None
      → next ≡ after_move o s → Prints whole old now next
  unfolding moves
  moves_none n i from to (Some m) whole old now s next rest low is none state = absurd (none-some m.mover (sym none))
  moves_none n i from to None whole old now s next rest low is none state =
      prints_at whole old now s next state (continues_end s whole old now (rw (below n i low, is) at rest))

  pub moves_all : (n i from to : ℕ) (whole : Played S) (old new : Progress) (s : S)
      → Continues (moves r (n - i) from to s) new whole old → n ≤ i → Prints whole old new s
  unfolding moves
  moves_all n i from to whole old new s rest high = continues_end s whole old new (rw (past n i high) at rest)

-- lines that are told with no change of the state
module _ {S : Type 0} (r : Rules S) (s : S) where
  pub covers_more : (n i now : ℕ) (a : Answerer) (whole : Played S) (old mid new : Progress)
      → Continues (lines_told (cover_lines r (n - i) i s) s) mid whole old → i < n → r.cover s i ≡ Some a → now ≡ r.clock s
      → new.text ≡ mid.text ++ line_text (lines.Cover now (cpu_id i) a.wheel a.cover)
      → new.tally ≡ tallied mid.tally (lines.Cover now (cpu_id i) a.wheel a.cover) → new.work ≡ mid.work
      → Continues (lines_told (cover_lines r (n - (i + 1)) (i + 1) s) s) new whole old
  unfolding cover_lines
  covers_more n i now a whole old mid new rest low is clock text tally work =
      let there = rw (below n i low, is) at rest in
      let told : lines.Cover now (cpu_id i) a.wheel a.cover ≡ lines.Cover (r.clock s) (cpu_id i) a.wheel a.cover = ap (λ t. lines.Cover t (cpu_id i) a.wheel a.cover) clock in
      let line = lines.Cover (r.clock s) (cpu_id i) a.wheel a.cover in
      let done = prints_line line s mid new (text ∙ ap (λ l. mid.text ++ line_text l) told) (tally ∙ ap (tallied mid.tally) told) work in
      continues_then (printing line s)
      (λ t. lines_told (cover_lines r (n - (i + 1)) (i + 1) s) t) whole old mid new s there done

  pub covers_less : (n i : ℕ) (whole : Played S) (old now : Progress)
      → Continues (lines_told (cover_lines r (n - i) i s) s) now whole old → i < n → r.cover s i ≡ None
      → Continues (lines_told (cover_lines r (n - (i + 1)) (i + 1) s) s) now whole old
  unfolding cover_lines
  covers_less n i whole old now rest low is = rw (below n i low, is) at rest

  pub covers_all : (n i : ℕ) (whole : Played S) (old new : Progress)
      → Continues (lines_told (cover_lines r (n - i) i s) s) new whole old → n ≤ i → Prints whole old new s
  unfolding cover_lines
  covers_all n i whole old new rest high = continues_end s whole old new (rw (past n i high) at rest)

  -- THE END
  pub left_more : (n i : ℕ) (held : Queued) (whole : Played S) (old mid new : Progress)
      → Continues (lines_told (left r (n - i) i s) s) mid whole old → i < n → r.queued s i ≡ Some held
      → new.text ≡ mid.text ++ line_text (lines.Left (timer_id i) held.cpu held.class held.wheel)
      → new.tally ≡ tallied mid.tally (lines.Left (timer_id i) held.cpu held.class held.wheel) → new.work ≡ mid.work
      → Continues (lines_told (left r (n - (i + 1)) (i + 1) s) s) new whole old
  unfolding left
  left_more n i held whole old mid new rest low is text tally work =
      let there = rw (below n i low, is) at rest in
      let line = lines.Left (timer_id i) held.cpu held.class held.wheel in
      continues_then (printing line s)
      (λ t. lines_told (left r (n - (i + 1)) (i + 1) s) t) whole old mid new s there (prints_line line s mid new text tally work)

  pub left_less : (n i : ℕ) (whole : Played S) (old now : Progress)
      → Continues (lines_told (left r (n - i) i s) s) now whole old → i < n → r.queued s i ≡ None
      → Continues (lines_told (left r (n - (i + 1)) (i + 1) s) s) now whole old
  unfolding left
  left_less n i whole old now rest low is = rw (below n i low, is) at rest

  pub left_all : (n i : ℕ) (whole : Played S) (old new : Progress)
      → Continues (lines_told (left r (n - i) i s) s) new whole old → n ≤ i → Prints whole old new s
  unfolding left
  left_all n i whole old new rest high = continues_end s whole old new (rw (past n i high) at rest)

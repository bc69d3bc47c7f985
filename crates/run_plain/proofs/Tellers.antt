-- whose lines the parts of a play tell: those of an interrupt and of an operation are their CPU's,
-- and the others no CPU's
use Rattle.std.proofs.Common.{◌≡◌, ◌≢◌, ℕ, zero, suc, ◌+◌, List, [], ◌∷◌, ◌++◌, Bool, true, false}
use Rattle.std.proofs.Common.{Option, Some, None, refl, sym, ap, ◌∙◌, if◌then◌else◌}
use Rattle.std.specs.Prelude.{◌==◌, filter, is_none}
use Rattle.std.specs.Option.{option_map_or}
use Rattle.std.specs.FinSet as set
use Rattle.std.specs.Ordering.{nat_cmp}
use Rattle.std.proofs.lemmas.Bool.{eq-eqb, ne_eqb}
use Rattle.std.proofs.lemmas.List.Elements.{filter-append}
use Rattle.tm_base.specs.declared.faults.OpFault.{OpFault}
use Rattle.tm_base.specs.declared.faults.OpFault.TheVariants as faults
use Rattle.tm_base.specs.declared.names.Class.{Class}
use Rattle.tm_base.specs.declared.names.Class.TheVariants.{Deferrable, Global, Pinned}
use Rattle.tm_base.specs.declared.names.CpuId.{CpuId}
use Rattle.wheel_core.specs.declared.item.Item.{Item}
use Rattle.tm_report.specs.declared.lines.Line.{Line}
use Rattle.tm_script.specs.declared.syntax.Op.{Op}
use Rattle.tm_script.specs.declared.syntax.What.{What}
use Rattle.tm_script.specs.declared.syntax.What.TheVariants as whats
use Rattle.play_rules.specs.declared.asks.Answerer.{Answerer}
use Rattle.play_rules.specs.declared.asks.Queued.{Queued}
use Rattle.play_rules.specs.Rules.{Moved, Rules}
use Rattle.play_rules.specs.Parts.{Played, silent}
use Rattle.play_rules.specs.Interrupts.{Replies, drain, interrupt, interrupt_where, interrupts}
use Rattle.play_rules.specs.Interrupts.{look}
use Rattle.play_rules.specs.Interrupts.{look_at, look_where, looks, run_jobs, try_where}
use Rattle.play_rules.specs.Operations.{cancel_where, clear_after, clear_where, cover_lines}
use Rattle.play_rules.specs.Operations.{cover_or, done, done_unless, hand_on_to, hand_on_where}
use Rattle.play_rules.specs.Operations.{idle_where, move_printed, moves, moves_to, operation}
use Rattle.play_rules.specs.Operations.{operations, refusal, refused_line}
use Rattle.run_story.specs.Stories.{is_told_by, is_told_by_none, teller}

-- lines that are all told by one CPU
pub record ToldBy (c : ℕ) (ls : List Line) : Type 0 where
  pub own : filter (is_told_by c) ls ≡ ls
  pub others : (i : ℕ) → i ≢ c → filter (is_told_by i) ls ≡ []
  pub none : filter is_told_by_none ls ≡ []

-- lines that no CPU tells
pub record ToldByNone (ls : List Line) : Type 0 where
  pub each : (i : ℕ) → filter (is_told_by i) ls ≡ []
  pub own : filter is_told_by_none ls ≡ ls

pub nothing_by : (c : ℕ) → ToldBy c []
nothing_by c = record { own = refl; others = λ i ne. refl; none = refl }

pub nothing_by_none : ToldByNone []
nothing_by_none = record { each = λ i. refl; own = refl }

-- one line
kept : (p : Line → Bool) (l : Line) → p l ≡ true → filter p (l ∷ []) ≡ l ∷ []
kept p l is = ap (λ (b : Bool). if b then l ∷ [] else []) is

left_out : (p : Line → Bool) (l : Line) → p l ≡ false → filter p (l ∷ []) ≡ []
left_out p l is = ap (λ (b : Bool). if b then l ∷ [] else []) is

told_one : (c : ℕ) (l : Line) → teller l ≡ Some c → ToldBy c (l ∷ [])
told_one c l is = record {
  own = kept (is_told_by c) l
      (ap (λ m. option_map_or (λ d. d == c) m false) is ∙ eq-eqb c c refl);
  others = λ i ne. left_out (is_told_by i) l
      (ap (λ m. option_map_or (λ d. d == i) m false) is ∙ ne_eqb c i (λ e. ne (sym e)));
  none = left_out is_told_by_none l (ap is_none is);
}

none_one : (l : Line) → teller l ≡ None → ToldByNone (l ∷ [])
none_one l is = record {
  each = λ i. left_out (is_told_by i) l (ap (λ m. option_map_or (λ d. d == i) m false) is);
  own = kept is_told_by_none l (ap is_none is);
}

-- two parts
pub told_both : (c : ℕ) (xs ys : List Line) → ToldBy c xs → ToldBy c ys → ToldBy c (xs ++ ys)
told_both c xs ys a b = record {
  own = filter-append (is_told_by c) xs ys ∙ (λ i. a.own i ++ b.own i);
  others = λ i ne. filter-append (is_told_by i) xs ys ∙ (λ j. a.others i ne j ++ b.others i ne j);
  none = filter-append is_told_by_none xs ys ∙ (λ i. a.none i ++ b.none i);
}

pub none_both : (xs ys : List Line) → ToldByNone xs → ToldByNone ys → ToldByNone (xs ++ ys)
none_both xs ys a b = record {
  each = λ i. filter-append (is_told_by i) xs ys ∙ (λ j. a.each i j ++ b.each i j);
  own = filter-append is_told_by_none xs ys ∙ (λ i. a.own i ++ b.own i);
}

module _ {S : Type 0} (jobs : Replies) (r : Rules S) where
  -- THE INTERRUPT of a CPU
  jobs_by : (home c : ℕ) (items : List Item) (s : S)
      → ToldBy c (run_jobs jobs r home c items s).lines
  unfolding run_jobs
  jobs_by home c [] s = nothing_by c
  jobs_by home c (item ∷ items) s =
      told_both c _ _ (told_one c _ refl) (jobs_by home c items _)

  drain_by : (home : ℕ) (class : Class) (c : ℕ) (s : S)
      → ToldBy c (drain jobs r home class c s).lines
  drain_by home class c s = jobs_by home c _ _

  try_by : (b : Bool) (c d : ℕ) (s : S) → ToldBy c (try_where jobs r b c d s).lines
  try_by true c d s = told_both c _ _ (drain_by d Global c _) (nothing_by c)
  try_by false c d s = nothing_by c

  look_at_by : (m : Option ℕ) (c : ℕ) (rest : set.FinSet nat_cmp → S → Played S)
      (tried : set.FinSet nat_cmp) (s : S)
      → ((t : set.FinSet nat_cmp) (u : S) → ToldBy c (rest t u).lines)
      → ToldBy c (look_at jobs r m c rest tried s).lines
  look_at_by None c rest tried s h = nothing_by c
  look_at_by (Some d) c rest tried s h =
      told_both c _ _ (try_by (r.takes s c d) c d s) (h (set.insert tried d) _)

  look_by : (n c level : ℕ) (tried : set.FinSet nat_cmp) (s : S)
      → ToldBy c (look jobs r n c level tried s).lines
  unfolding look
  look_by zero c level tried s = nothing_by c
  look_by (suc n) c level tried s =
      look_at_by (r.named s c level tried) c (look jobs r n c level) tried s
      (λ t u. look_by n c level t u)

  look_where_by : (b : Bool) (c level : ℕ) (above : S → Played S) (s : S)
      → ((u : S) → ToldBy c (above u).lines) → ToldBy c (look_where jobs r b c level above s).lines
  look_where_by false c level above s h = nothing_by c
  look_where_by true c level above s h =
      told_both c _ _ (look_by (r.cpus s) c level set.empty s) (h _)

  looks_by : (n c level : ℕ) (s : S) → ToldBy c (looks jobs r n c level s).lines
  unfolding looks
  looks_by zero c level s = nothing_by c
  looks_by (suc n) c level s =
      look_where_by (r.looks_after s c level) c level (looks jobs r n c (level + 1)) s
      (λ u. looks_by n c (level + 1) u)

  interrupt_by : (c : ℕ) (s : S) → ToldBy c (interrupt jobs r c s).lines
  interrupt_by c s =
      told_both c _ _
      (told_both c _ _
      (told_both c _ _ (nothing_by c)
      (told_both c _ _
      (told_both c _ _ (drain_by c Pinned c _) (drain_by c Global c _))
      (drain_by c Deferrable c _)))
      (looks_by _ c 0 _))
      (nothing_by c)

  pub due_by : (b : Bool) (c : ℕ) (s : S) → ToldBy c (interrupt_where jobs r b c s).lines
  due_by false c s = nothing_by c
  due_by true c s = interrupt_by c s

module _ {S : Type 0} (r : Rules S) where
  -- AN OPERATION of a CPU
  refused_by : (fault : OpFault) (now line : ℕ) (cpu : CpuId)
      → teller (refused_line fault now line cpu) ≡ Some cpu.0
  refused_by (faults.Queued holder) now line cpu = refl
  refused_by faults.NotActive now line cpu = refl
  refused_by faults.NotIdle now line cpu = refl
  refused_by faults.Offline now line cpu = refl
  refused_by faults.AlreadyOnline now line cpu = refl
  refused_by faults.LastOnline now line cpu = refl
  refused_by (faults.Spent made) now line cpu = refl
  refused_by faults.NoMemory now line cpu = refl

  hand_on_to_by : (m : Option ℕ) (cpu : CpuId) (s : S) → ToldBy cpu.0 (hand_on_to r m cpu s).lines
  hand_on_to_by None cpu s = nothing_by cpu.0
  hand_on_to_by (Some d) cpu s = told_one cpu.0 _ refl

  hand_on_by : (b : Bool) (cpu : CpuId) (s : S) → ToldBy cpu.0 (hand_on_where r b cpu s).lines
  hand_on_by false cpu s = nothing_by cpu.0
  hand_on_by true cpu s = hand_on_to_by (r.successor s cpu.0) cpu s

  cancel_by : (m : Option Queued) (timer : _) (cpu : CpuId) (line : ℕ) (s : S)
      → ToldBy cpu.0
      (cancel_where r m (record { timer = timer; by = cpu; line = line }) s).lines
  cancel_by None timer cpu line s = told_one cpu.0 _ refl
  cancel_by (Some held) timer cpu line s = told_one cpu.0 _ refl

  idle_by : (b : Bool) (cpu : CpuId) (s : S) → ToldBy cpu.0 (idle_where r b cpu s).lines
  idle_by true cpu s = told_one cpu.0 _ refl
  idle_by false cpu s = told_one cpu.0 _ refl

  done_by : (what : What) (line : ℕ) (cpu : CpuId) (s : S)
      → ToldBy cpu.0 (done r what line cpu s).lines
  done_by (whats.Arm timer class delay job arg) line cpu s = told_one cpu.0 _ refl
  done_by (whats.Cancel timer) line cpu s = cancel_by (r.queued s timer.0) timer cpu line s
  done_by whats.Idle line cpu s = idle_by _ cpu s
  done_by whats.Wake line cpu s = told_one cpu.0 _ refl
  done_by whats.Offline line cpu s =
      told_both cpu.0 _ _ (told_one cpu.0 _ refl) (hand_on_by (r.hands_on _ cpu.0) cpu _)
  done_by whats.Online line cpu s = told_one cpu.0 _ refl

  unless_by : (m : Option OpFault) (o : Op) (s : S) → ToldBy o.cpu.0 (done_unless r m o s).lines
  unless_by None o s = done_by o.what o.line o.cpu s
  unless_by (Some fault) o s =
      told_one o.cpu.0 _ (refused_by fault (r.clock s) o.line o.cpu)

  pub operation_by : (o : Op) (s : S) → ToldBy o.cpu.0 (operation r o s).lines
  operation_by o s = unless_by (refusal r o.what o.cpu.0 s) o s

  -- MOVED TIMERS and covers
  printed_by : (from to : ℕ) (m : Option (Moved S)) (rest : S → Played S) (s : S)
      → ((u : S) → ToldByNone (rest u).lines) → ToldByNone (move_printed r from to m rest s).lines
  printed_by from to None rest s h = nothing_by_none
  printed_by from to (Some m) rest s h = none_both _ _ (none_one _ refl) (h m.state)

  moves_by : (n from to : ℕ) (s : S) → ToldByNone (moves r n from to s).lines
  unfolding moves
  moves_by zero from to s = nothing_by_none
  moves_by (suc n) from to s =
      printed_by from to (r.moved s from to) (moves r n from to) s (λ u. moves_by n from to u)

  moves_to_by : (m : Option ℕ) (from : ℕ) (s : S) → ToldByNone (moves_to r m from s).lines
  moves_to_by None from s = nothing_by_none
  moves_to_by (Some d) from s = none_both _ _ (none_one _ refl) (moves_by _ from d _)

  clear_where_by : (n from : ℕ) (s : S) → ToldByNone (clear_where r n from s).lines
  clear_where_by zero from s = nothing_by_none
  clear_where_by (suc n) from s = moves_to_by (r.controller s) from s

  clear_by : (b : Bool) (from : ℕ) (s : S)
      → ToldByNone (if b then silent s else clear_where r (r.count_queued s from) from s).lines
  clear_by true from s = nothing_by_none
  clear_by false from s = clear_where_by (r.count_queued s from) from s

  pub clear_after_by : (m : Option ℕ) (s : S) → ToldByNone (clear_after r m s).lines
  clear_after_by None s = nothing_by_none
  clear_after_by (Some c) s = clear_by (r.is_online s c) c s

  cover_by : (m : Option Answerer) (c : ℕ) (s : S) (others : List Line) → ToldByNone others
      → ToldByNone (cover_or r m c s others)
  cover_by None c s others h = h
  cover_by (Some a) c s others h = none_both _ others (none_one _ refl) h

  pub covers_by : (n c : ℕ) (s : S) → ToldByNone (cover_lines r n c s)
  unfolding cover_lines
  covers_by zero c s = nothing_by_none
  covers_by (suc n) c s = cover_by (r.cover s c) c s _ (covers_by n (c + 1) s)

-- what no CPU tells is no part of interrupts and operations
none_then : (xs ys : List Line) → filter is_told_by_none xs ≡ []
    → filter is_told_by_none ys ≡ [] → filter is_told_by_none (xs ++ ys) ≡ []
none_then xs ys a b = filter-append is_told_by_none xs ys ∙ (λ i. a i ++ b i)

module _ {S : Type 0} (jobs : Replies) (r : Rules S) where
  pub interrupts_none : (n c : ℕ) (due : set.FinSet nat_cmp) (s : S)
      → filter is_told_by_none (interrupts jobs r n c due s).lines ≡ []
  unfolding interrupts
  interrupts_none zero c due s = refl
  interrupts_none (suc n) c due s =
      let one = interrupt_where jobs r (set.contains due c) c s in
      none_then one.lines (interrupts jobs r n (c + 1) due one.state).lines
      (due_by jobs r (set.contains due c) c s).none (interrupts_none n (c + 1) due one.state)

module _ {S : Type 0} (r : Rules S) where
  pub operations_none : (ops : List Op) (s : S)
      → filter is_told_by_none (operations r ops s).lines ≡ []
  unfolding operations
  operations_none [] s = refl
  operations_none (op ∷ ops) s =
      let one = operation r op s in
      none_then one.lines (operations r ops one.state).lines (operation_by r op s).none
      (operations_none ops one.state)

pub both_none : (xs ys : List Line) → filter is_told_by_none xs ≡ []
    → filter is_told_by_none ys ≡ [] → filter is_told_by_none (xs ++ ys) ≡ []
both_none xs ys a b = none_then xs ys a b

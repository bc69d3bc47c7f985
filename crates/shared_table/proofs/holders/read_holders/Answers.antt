use Rattle.std.proofs.Common.{rules, ◌≡◌, ℕ, ◌+◌, ◌<◌, length, sym, subst, ◌∙◌, None}
use Rattle.std.specs.Prelude.{option_map, slice_index_or, slice_set}
use Rattle.std.proofs.lemmas.List.{length-set}
use Rattle.shared_words.specs.Words.{spot_of}
use Rattle.shared_rule.specs.Whole.{timer_at}
use Rattle.shared_table.specs.Endings.{cpu_of_spot, word_in}
use Rattle.shared_table.proofs.Spellings.{one_more}
use Rattle.shared_table.proofs.Queued.{held}
use Rattle.shared_table.proofs.holders.read_holders.Goals as goal

pub loop-timer-preserved : goal.loop-timer-preserved
loop-timer-preserved c =
    let n = c.loop-timer.timer in
    let f = λ (t : ℕ). option_map cpu_of_spot (spot_of (word_in c.args.words.now (timer_at t))) in
    let low : n < length c.loop-timer.holders.items = search rules in
    record {
      count = length-set c.loop-timer.holders.items c.from.result c.read_holder.result
          ∙ c.loop-timer.invariant.count;
      each = subst
          (λ i. (k : ℕ) → k < n + 1
          → slice_index_or (slice_set c.loop-timer.holders.items i c.read_holder.result) k None ≡ f k)
          (sym c.from.ensures)
          (one_more None c.loop-timer.holders.items n f c.read_holder.result low c.read_holder.ensures
          c.loop-timer.invariant.each);
    }

pub returns-clause-held : goal.returns-clause-held
returns-clause-held c = λ w r.
    held c.core_laws.ensures c.law_ways_back.ensures c.args.words.now w r c.loop-timer.holders.items
    c.loop-timer.invariant.count (λ t low. c.loop-timer.invariant.each t (search rules))

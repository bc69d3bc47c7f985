use Rattle.shared_rows.proofs.runs.see_words.Goals as goal

pub returns : goal.returns
returns g c = λ k h. c.see_timers.ensures.stays k (c.see_groups.ensures.stays k h)

-- how journals grow by what is told
use Rattle.std.proofs.Common.{◌≡◌, ℕ, ◌<◌, List, [], ◌++◌, Bool, true, refl, sym, ap}
use Rattle.std.proofs.Common.{◌∙◌, inl, inr}
use Rattle.std.specs.Prelude.{filter}
use Rattle.std.proofs.lemmas.Bool.{cases_eq, false≢true}
use Rattle.std.proofs.lemmas.List.{append_assoc, append-nil, length-set}
use Rattle.std.proofs.lemmas.List.Elements.{filter-append}
use Rattle.std.proofs.lemmas.Grind.{flat_map-append}
use Rattle.tm_report.specs.declared.lines.Line.{Line}
use Rattle.tm_report.specs.declared.lines.Line.TheVariants as lines
use Rattle.cpu_bases.specs.declared.entry.Entry.{Entry}
use Rattle.cpu_bases.specs.CpuBases.{CpuBases}
use Rattle.play_rules.specs.State.{Cpu, State, cpu_at, cpu_count, with_bases}
use Rattle.play_rules.specs.Timers.{bases_at}
use Rattle.play_laws.specs.Told.Journals.{Deed, by_entry, by_journal, by_line}
use Rattle.play_laws.proofs.Answered.States.{written}
use Rattle.play_laws.proofs.Answered.Invariant.{put_other, put_same}
use Rattle.play_laws.proofs.Told.Tells.{is_quiet}

-- what tells of no timer tells nothing of a CPU's
pub quiet_none : (c : ℕ) (line : Line) → is_quiet line ≡ true → by_line c line ≡ []
quiet_none c (lines.Arm now cpu timer class wheel) is = absurd (false≢true is)
quiet_none c (lines.Run now runner timer home wheel reply) is = absurd (false≢true is)
quiet_none c (lines.Cancel now cpu timer home) is = absurd (false≢true is)
quiet_none c (lines.Moved now timer from to wheel) is = absurd (false≢true is)
quiet_none c (lines.NotQueued now cpu timer) is = refl
quiet_none c (lines.Idle now cpu until) is = refl
quiet_none c (lines.Stay now cpu first) is = refl
quiet_none c (lines.Wake now cpu) is = refl
quiet_none c (lines.Offline now cpu) is = refl
quiet_none c (lines.Handed now cpu to) is = refl
quiet_none c (lines.Online now cpu) is = refl
quiet_none c (lines.Control now cpu) is = refl
quiet_none c (lines.Cover now cpu wheel cover) is = refl
quiet_none c (lines.Refused now cpu line number) is = refl
quiet_none c (lines.RefusedQueued now cpu line number holder) is = refl
quiet_none c (lines.Left timer cpu class wheel) is = refl
quiet_none c (lines.End now) is = refl
quiet_none c (lines.Why steps cpu timer shown) is = refl
quiet_none c (lines.Yes steps) is = refl
quiet_none c (lines.No index) is = refl
quiet_none c (lines.Device now until) is = refl

-- two pairs of lists, of which the inner ones may change places
pub middle : {X : Type 0} (a b c d : List X) → b ++ c ≡ c ++ b
    → (a ++ b) ++ (c ++ d) ≡ (a ++ c) ++ (b ++ d)
middle a b c d swap =
    append_assoc a b (c ++ d)
    ∙ ap (λ x. a ++ x) (sym (append_assoc b c d) ∙ ap (λ x. x ++ d) swap ∙ append_assoc c b d)
    ∙ sym (append_assoc a c (b ++ d))

module _ (passes : Deed → Bool) where
  -- JOURNALS GROW by what is told, of what passes
  pub record Goes (s : State) (told : ℕ → List Deed) (t : State) : Type 0 where
    pub count : cpu_count t ≡ cpu_count s
    pub timers : t.timers ≡ s.timers
    pub grows : (c : ℕ)
        → filter passes (by_journal (bases_at t c).journal)
        ≡ filter passes (by_journal (bases_at s c).journal) ++ filter passes (told c)

  pub goes_none : (s : State) → Goes s (λ c. []) s
  goes_none s = record {
    count = refl;
    timers = refl;
    grows = λ c. sym (append-nil (filter passes (by_journal (bases_at s c).journal)));
  }

  -- the same is told
  pub goes_same : (s t : State) (told as_told : ℕ → List Deed)
      → ((c : ℕ) → filter passes (told c) ≡ filter passes (as_told c)) → Goes s told t
      → Goes s as_told t
  goes_same s t told as_told same goes = record {
    count = goes.count;
    timers = goes.timers;
    grows = λ c. goes.grows c
        ∙ ap (λ x. filter passes (by_journal (bases_at s c).journal) ++ x) (same c);
  }

  -- one after the other
  pub goes_both : (s t u : State) (told more : ℕ → List Deed) → Goes s told t → Goes t more u
      → Goes s (λ c. told c ++ more c) u
  goes_both s t u told more first rest = record {
    count = rest.count ∙ first.count;
    timers = rest.timers ∙ first.timers;
    grows = λ c.
        let old = filter passes (by_journal (bases_at s c).journal) in
        rest.grows c
        ∙ (ap (λ x. x ++ filter passes (more c)) (first.grows c)
        ∙ (append_assoc old (filter passes (told c)) (filter passes (more c))
        ∙ ap (λ x. old ++ x) (sym (filter-append passes (told c) (more c)))));
  }

  -- the bases stay as they are
  pub goes_alike : (s t : State) → cpu_count t ≡ cpu_count s → t.timers ≡ s.timers
      → ((d : ℕ) → bases_at t d ≡ bases_at s d) → Goes s (λ c. []) t
  goes_alike s t count timers same = record {
    count = count;
    timers = timers;
    grows = λ c.
        ap (λ (b : CpuBases). filter passes (by_journal b.journal)) (same c)
        ∙ sym (append-nil (filter passes (by_journal (bases_at s c).journal)));
  }

  -- a journal is written
  module _ (s : State) (d : ℕ) (there : d < cpu_count s) (b : CpuBases) (more : List Entry)
      (is : b.journal ≡ (bases_at s d).journal ++ more) (told : ℕ → List Deed)
      (here : filter passes (by_journal more) ≡ filter passes (told d))
      (others : (c : ℕ) → (c ≡ d → ⊥) → told c ≡ []) where
    own_grows : filter passes (by_journal b.journal)
        ≡ filter passes (by_journal (bases_at s d).journal) ++ filter passes (told d)
    own_grows =
        let old = (bases_at s d).journal in
        ap (λ x. filter passes (by_journal x)) is
        ∙ (ap (filter passes) (flat_map-append (λ entry. by_entry entry.act entry) old more)
        ∙ (filter-append passes (by_journal old) (by_journal more)
        ∙ ap (λ x. filter passes (by_journal old) ++ x) here))

    other_grows : (c : ℕ) → (c ≡ d → ⊥) → (j : List Entry) → j ≡ (bases_at s c).journal
        → filter passes (by_journal j)
        ≡ filter passes (by_journal (bases_at s c).journal) ++ filter passes (told c)
    other_grows c other j same =
        ap (λ x. filter passes (by_journal x)) same
        ∙ (sym (append-nil (filter passes (by_journal (bases_at s c).journal)))
        ∙ ap (λ x. filter passes (by_journal (bases_at s c).journal) ++ filter passes x)
        (sym (others c other)))

    abbrev x : Cpu
    x = record (cpu_at s d) { bases = b }

    at_each : (c : ℕ)
        → filter passes (by_journal (bases_at (with_bases s d b) c).journal)
        ≡ filter passes (by_journal (bases_at s c).journal) ++ filter passes (told c)
    at_each c =
        elim (cases_eq c d) [
          | inl same ↦
              let now : bases_at (with_bases s d b) c ≡ b =
              ap (λ k. bases_at (with_bases s d b) k) same
              ∙ (ap (λ (f : ℕ → Cpu). (f d).bases) (written s d x there)
              ∙ ap (λ (y : Cpu). y.bases) (put_same (cpu_at s) d x)) in
              ap (λ (y : CpuBases). filter passes (by_journal y.journal)) now
              ∙ (own_grows
              ∙ ap (λ k. filter passes (by_journal (bases_at s k).journal)
              ++ filter passes (told k)) (sym same))
          | inr other ↦
              other_grows c other (bases_at (with_bases s d b) c).journal
              (ap (λ (y : CpuBases). y.journal) (elsewhere c other))
        ]
      where
        elsewhere : (c : ℕ) → (c ≡ d → ⊥) → bases_at (with_bases s d b) c ≡ bases_at s c
        elsewhere c other =
            ap (λ (f : ℕ → Cpu). (f c).bases) (written s d x there)
            ∙ ap (λ (y : Cpu). y.bases) (put_other (cpu_at s) d x c other)

    pub goes_written : Goes s told (with_bases s d b)
    goes_written = record {
      count = length-set s.cpus d x;
      timers = refl;
      grows = at_each;
    }

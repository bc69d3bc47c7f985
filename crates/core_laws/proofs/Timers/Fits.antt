-- timers of all CPUs, where those of none or of one CPU change
use Rattle.std.proofs.Common.{arith, ◌≡◌, ◌≢◌, ℕ, ◌-◌, ◌^◌, ◌<◌, ◌≤◌, length, set, List, Some}
use Rattle.std.proofs.Common.{None, sym, ap}
use Rattle.std.proofs.Common.{◌∙◌, subst, inl, inr}
use Rattle.std.specs.Prelude.{All}
use Rattle.std.proofs.lemmas.Bool.{cases_eq}
use Rattle.std.proofs.lemmas.List.{get_or-set_same, get_or-set_other}
use Rattle.std.proofs.lemmas.Option.{none-some}
use Rattle.tm_base.specs.declared.names.Class.{Class}
use Rattle.tm_base.specs.declared.names.TheConstants.{TIME_LIMIT}
use Rattle.cpu_bases.specs.declared.entry.Entry.{Entry}
use Rattle.cpu_bases.specs.CpuBases.{CpuBases, IsConsistent, base_of, class_in}
use Rattle.cpu_bases.specs.Journals.{LegalUpTo}
use Rattle.walk_rules.specs.Scene.{Group}
use Rattle.core_world.specs.World.{CpuRecord, World, cpu_of, no_cpu}
use Rattle.core_laws.specs.Timers.Layer.{TimersFit}
use Rattle.core_laws.proofs.Timers.Items.{Each}

-- what is legal up to a time is legal up to a later one
legal_later : (c time now : ℕ) (journal : List Entry) → time ≤ now → LegalUpTo c time journal
    → LegalUpTo c now journal
legal_later c time now journal near upto =
    let past = upto.not_past in record { legal = upto.legal; not_past = omega arith }

-- where each CPU's stay, and time doesn't go back
module _ (w v : World) (f : TimersFit w) (timers : v.timers ≡ w.timers) (later : w.clock ≤ v.clock)
    (in_time : v.clock < TIME_LIMIT - 2) (same : (d : ℕ) → (cpu_of v d).bases ≡ (cpu_of w d).bases)
  where
    pub same_fit : TimersFit v
    same_fit = record {
      timers = record {
        one_cpu = λ c d timer class other a b. f.timers.one_cpu c d timer class other
            (ap (class_in timer) (sym (same c)) ∙ a) (ap (class_in timer) (sym (same d)) ∙ b);
        legal = λ c. legal_later c w.clock v.clock (cpu_of v c).bases.journal later
            (subst (λ b. LegalUpTo c w.clock b.journal) (sym (same c)) (f.timers.legal c));
        consistent = λ c. subst IsConsistent (sym (same c)) (f.timers.consistent c);
      };
      times = record {
        clock = in_time;
        few = subst (λ n. n ≤ 2 ^ 16) (sym timers) f.times.few;
        known = λ c class. subst (λ b. All (λ item. item.id < v.timers) (base_of class b).items)
            (sym (same c)) (subst (λ n. All (λ item. item.id < n)
            (base_of class (cpu_of w c).bases).items) (sym timers) (f.times.known c class));
      };
    }

-- what new bases of CPU c fit
pub record FitsAt (w : World) (c : ℕ) (bases : CpuBases) : Type 0 where
  pub legal : LegalUpTo c w.clock bases.journal
  pub consistent : IsConsistent bases
  pub known : Each (λ id. id < w.timers) bases
  pub alone : (timer : ℕ) (class : Class) → class_in timer bases ≡ Some class → (d : ℕ) → d ≢ c
      → class_in timer (cpu_of w d).bases ≡ None

abbrev pub with_cpu : World → (c : ℕ) → CpuRecord → World
with_cpu w c y = record w { cpus = set w.cpus c y }

-- where one CPU gets them
module _ (w : World) (c : ℕ) (y : CpuRecord) (hc : c < length w.cpus) (f : TimersFit w)
    (fits : FitsAt w c y.bases) where
  pub set_same : cpu_of (with_cpu w c y) c ≡ y
  set_same = get_or-set_same w.cpus c y no_cpu hc

  pub set_else : (d : ℕ) → d ≢ c → cpu_of (with_cpu w c y) d ≡ cpu_of w d
  set_else d ne = get_or-set_other w.cpus c d y no_cpu ne

  all : (P : ℕ → CpuBases → Type 0) → P c y.bases → ((d : ℕ) → P d (cpu_of w d).bases) → (d : ℕ)
      → P d (cpu_of (with_cpu w c y) d).bases
  all P own old d = elim (cases_eq d c) [
    | inl same ↦ subst (λ n. P n (cpu_of (with_cpu w c y) n).bases) (sym same)
        (subst (λ z. P c z.bases) (sym set_same) own)
    | inr ne ↦ subst (λ z. P d z.bases) (sym (set_else d ne)) (old d)
  ]

  one_cpu : (d e timer : ℕ) (class other : Class) → class_in timer (cpu_of (with_cpu w c y) d).bases
      ≡ Some class → class_in timer (cpu_of (with_cpu w c y) e).bases ≡ Some other → d ≡ e
  one_cpu d e timer class other a b = elim (cases_eq d c) [
    | inl dc ↦ elim (cases_eq e c) [
      | inl ec ↦ dc ∙ sym ec
      | inr en ↦ absurd (none-some other (sym (fits.alone timer class (at_c d dc class a) e en)
          ∙ at_else e en other b))
    ]
    | inr dn ↦ elim (cases_eq e c) [
      | inl ec ↦ absurd (none-some class (sym (fits.alone timer other (at_c e ec other b) d dn)
          ∙ at_else d dn class a))
      | inr en ↦ f.timers.one_cpu d e timer class other (at_else d dn class a)
          (at_else e en other b)
    ]
  ]
    where
      at_c : (n : ℕ) → n ≡ c → (k : Class) → class_in timer (cpu_of (with_cpu w c y) n).bases ≡ Some
          k → class_in timer y.bases ≡ Some k
      at_c n nc k is = ap (λ (z : CpuRecord). class_in timer z.bases) (sym set_same)
          ∙ (ap (λ m. class_in timer (cpu_of (with_cpu w c y) m).bases) (sym nc) ∙ is)

      at_else : (n : ℕ) → n ≢ c → (k : Class) → class_in timer (cpu_of (with_cpu w c y) n).bases ≡
          Some k → class_in timer (cpu_of w n).bases ≡ Some k
      at_else n ne k is = ap (λ (z : CpuRecord). class_in timer z.bases) (sym (set_else n ne)) ∙ is

  pub set_fit : TimersFit (with_cpu w c y)
  set_fit = record {
    timers = record {
      one_cpu = one_cpu;
      legal = all (λ d b. LegalUpTo d w.clock b.journal) fits.legal f.timers.legal;
      consistent = all (λ d b. IsConsistent b) fits.consistent f.timers.consistent;
    };
    times = record {
      clock = f.times.clock;
      few = f.times.few;
      known = all (λ d b. Each (λ id. id < w.timers) b) fits.known f.times.known;
    };
  }

-- groups are nothing to them
pub grouped_fit : (w : World) (gs : List Group) → TimersFit w → TimersFit (record w { groups = gs })
grouped_fit w gs f = record {
  timers = record {
    one_cpu = f.timers.one_cpu;
    legal = f.timers.legal;
    consistent =
        f.timers.consistent;
  };
  times = record { clock = f.times.clock; few = f.times.few; known = f.times.known };
}

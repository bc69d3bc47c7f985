-- tests in a row
use Rattle.std.proofs.Common.{◌≡◌, ℕ, Bool, true, false, cond, ◌&&◌, ltb, leb, List, Result, Ok, Err, refl}
use Rattle.text_words.specs.Numbers.{is_number, value_of}
use Rattle.tm_script.specs.declared.faults.Kind.{Kind}
use Rattle.tm_script.specs.declared.faults.Kind.TheVariants.{BadNumber, OutOfRange}
use Rattle.tm_script.specs.Reading.{◌>>=◌, number_in, within}

pub bind_cond : {A B E : Type 0} (b : Bool) (x : A) (e : E) (f : A → Result B E) → cond b (Ok x) (Err e) >>= f ≡ cond b (f x) (Err e)
bind_cond true x e f = refl
bind_cond false x e f = refl

pub bind_row : {A B E : Type 0} (b : Bool) (m : Result A E) (e : E) (f : A → Result B E) → cond b m (Err e) >>= f ≡ cond b (m >>= f) (Err e)
bind_row true m e f = refl
bind_row false m e f = refl

pub cond_and : {X : Type 0} (a b : Bool) (x y : X) → cond (a && b) x y ≡ cond a (cond b x y) y
cond_and true b x y = refl
cond_and false b x y = refl

pub number_step : {B : Type 0} (w : List ℕ) (f : ℕ → Result B Kind) → number_in w >>= f ≡ cond (is_number w) (f (value_of w)) (Err BadNumber)
unfolding number_in
number_step w f = bind_cond (is_number w) (value_of w) BadNumber f

pub within_step : {B : Type 0} (least bound n : ℕ) (f : ℕ → Result B Kind) → within least bound n >>= f ≡ cond (leb least n && ltb n bound) (f n) (Err OutOfRange)
unfolding within
within_step least bound n f = bind_cond (leb least n && ltb n bound) n OutOfRange f

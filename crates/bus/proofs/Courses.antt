-- No course lets a port wait past its limits. Assumes nothing.
use Rattle.std.proofs.Common.{◌≡◌, ℕ, ◌+◌, true, List, sym, refl, ap, ◌∙◌, subst, inl, inr, arith, Some, None}
use Rattle.std.proofs.lemmas.Bool.{cases_eq, both_ways, eq-eqb, ne_eqb}
use Rattle.tasks.specs.Limits.{AtMost, more, Limit}
use Rattle.bus.specs.Turns.{Meaning, SameBus, with_served}
use Rattle.bus.specs.Means.{Means, Laws, LimitOf}
use Rattle.bus.specs.Courses.{Event, Course, RuleCourse, phases, NoTurnsPassALimit, EveryCourseKeepsTheTurnRule, NoWaitIsLonger}
use Rattle.bus.proofs.AtMost.{at_most_trans}
use Rattle.bus.proofs.Served.{served_mono}

abbrev plus : ℕ → Limit → Limit
plus k (Some m) = Some (k + m)
plus k None = None

plus_none : (x : Limit) → AtMost (plus 0 x) x
plus_none x = grind arith

-- one more is spent, and one less is left
plus_one : (k : ℕ) (x y z : Limit) → AtMost (plus k x) z → AtMost (more y) x → AtMost (plus (1 + k) y) z
plus_one k x y z p q = grind arith

plus_kept : (j k : ℕ) (x y z : Limit) → j ≡ k → AtMost (plus k x) z → AtMost y x → AtMost (plus j y) z
plus_kept j k x y z e p q = grind arith

counted : (k : ℕ) (x y : Limit) → AtMost (plus k x) y → AtMost (Some k) y
counted k x y p = grind arith

-- the phases of b so far, and those that may yet come, are no more than could come at the start
pub record Spent (m : Meaning) (a b : ℕ) (es : List Event) (n : Meaning) : Type 0 where
  pub waits : n.waits a ≡ true
  pub within : AtMost (plus (phases b es) (n.still a b)) (m.still a b)

pub spent : {m n : Meaning} {es : List Event} (a b : ℕ) → m.waits a ≡ true → RuleCourse m es n → phases a es ≡ 0 → Spent m a b es n
spent {m} a b w (RuleCourse.start) z = record { waits = w; within = plus_none (m.still a b) }
spent {m} a b w (RuleCourse.join {n = n} {o = o} {a = c} {es = es} r j) z =
    let k = spent a b w r z in
    let ne : a ≡ c → ⊥ = λ e. both_ways (n.waits c) j.free (ap n.waits (sym e) ∙ k.waits) in
    record {
      waits = j.others a ne ∙ k.waits;
      within = plus_kept (phases b es) (phases b es) (n.still a b) (o.still a b) (m.still a b) refl k.within (j.kept a b k.waits);
    }
spent {m} a b w (RuleCourse.grant {n = n} {o = o} {c = c} {es = es} r g) z = elim (cases_eq c a) [
  | inl e ↦ absurd (let k = rw (eq-eqb c a e) at z in omega (arith, k))
  | inr ne ↦ (
      let zz : 0 + phases a es ≡ 0 = rw (ne_eqb c a ne) at z in
      let k = spent a b w r (omega arith) in
      let still : o.waits a ≡ true = g.others a (λ e. ne (sym e)) ∙ k.waits in
      elim (cases_eq c b) [
        | inl e ↦ record { waits = still; within = rw (eq-eqb c b e) (plus_one (phases b es) (n.still a b) (o.still a b) (m.still a b) k.within (subst (λ x. AtMost (more (o.still a x)) (n.still a x)) e (g.falls a still))) }
        | inr nb ↦ record { waits = still; within = rw (ne_eqb c b nb) (plus_kept (0 + phases b es) (phases b es) (n.still a b) (o.still a b) (m.still a b) (omega arith) k.within (g.kept a b still)) }
      ])
]
spent {m} a b w (RuleCourse.done {n = n} {o = o} {es = es} r d) z =
    let k = spent a b w r z in
    record {
      waits = d.waits a ∙ k.waits;
      within = subst (λ x. AtMost (plus (phases b es) x) (m.still a b)) (sym (d.still a b)) k.within;
    }

pub no_turns_pass : NoTurnsPassALimit
no_turns_pass m a n es o b j r z h ne =
    let k = spent a b j.waits r z in
    at_most_trans (with_served m.serves b (Some (phases b es))) (with_served m.serves b (n.still a b)) (m.limit a b)
    (served_mono m.serves b (Some (phases b es)) (n.still a b) (counted (phases b es) (o.still a b) (n.still a b) k.within))
    (j.fresh b h ne)

pub keeps_rule : {X : Type 0} (means : Means X) → Laws means → EveryCourseKeepsTheTurnRule means
keeps_rule means laws s es t st (Course.start) = (RuleCourse.start, st)
keeps_rule means laws s es t st (Course.join {t = v} {a = a} {es = fs} r j) =
    let k = keeps_rule means laws s fs v st r in
    let l = laws.joining v a t k.1 j in
    (RuleCourse.join k.0 l.0, l.1)
keeps_rule means laws s es t st (Course.grant {t = v} {c = c} {es = fs} r g) =
    let k = keeps_rule means laws s fs v st r in
    let l = laws.granting v c t k.1 g in
    (RuleCourse.grant k.0 l.0, l.1)
keeps_rule means laws s es t st (Course.done {t = v} {es = fs} r d) =
    let k = keeps_rule means laws s fs v st r in
    let l = laws.ending v t k.1 d in
    (RuleCourse.done k.0 l.0, l.1)

same_bus : {m n : Meaning} {es : List Event} → RuleCourse m es n → SameBus m n
same_bus (RuleCourse.start) = record { ports = refl; limit = λ x y. refl }
same_bus (RuleCourse.join r j) = let k = same_bus r in record { ports = j.bus.ports ∙ k.ports; limit = λ x y. j.bus.limit x y ∙ k.limit x y }
same_bus (RuleCourse.grant r g) = let k = same_bus r in record { ports = g.bus.ports ∙ k.ports; limit = λ x y. g.bus.limit x y ∙ k.limit x y }
same_bus (RuleCourse.done r d) = let k = same_bus r in record { ports = d.bus.ports ∙ k.ports; limit = λ x y. d.bus.limit x y ∙ k.limit x y }

pub no_longer : {X : Type 0} (means : Means X) → Laws means → (s : X) (a b : ℕ) (l : Limit) → LimitOf (means.meaning s) a b l → NoWaitIsLonger means s a b l
no_longer means laws s a b l is before t u es v st past j r z =
    let k = keeps_rule means laws s before t st past in
    let bus = same_bus k.0 in
    let n = laws.joining t a u k.1 j in
    let within = no_turns_pass (means.meaning t) a (means.meaning u) es (means.meaning v) b n.0 (keeps_rule means laws u es v n.1 r).0 z (rw bus.ports is.second) (λ e. is.apart (sym e)) in
    subst (AtMost (with_served (means.meaning t).serves b (Some (phases b es)))) (bus.limit a b ∙ sym is.limit) within

-- One row more is fetched: its task, and its two offers at their places.
use Rattle.std.proofs.Common.{◌≡◌, ℕ, ◌+◌, ◌<◌, List, [], ◌∷◌, ◌++◌, map, length, take, sym, refl, ap, ◌∙◌, inl, inr, add-one}
use Rattle.std.proofs.lemmas.List.{take_more, map-append}
use Rattle.std.proofs.lemmas.Bool.{cases_Bool}
use Rattle.std.specs.Ordering.{is_lt}
use Rattle.roster.specs.Order.{insert_by}
use Rattle.tasks.specs.declared.task.Row.{Row}
use Rattle.tasks.specs.declared.task.Task.{Task}
use Rattle.tasks.specs.Rows.{no_row}
use Rattle.demand.specs.declared.offer.Offer.{Offer}
use Rattle.demand.specs.declared.offer.Phase.TheVariants.{A, R}
use Rattle.demand.specs.Offers.{listed, listing, keeping, offer_cmp, kept}
use Rattle.demand.specs.Rows.{rows_of, row_at}

pub tasks_more : (rows : List Row) (i : ℕ) (tasks later : List Task) (task : Task) → i < length rows → task.row ≡ row_at rows i
    → rows_of tasks ≡ take i rows → later ≡ tasks ++ task ∷ [] → rows_of later ≡ take (i + 1) rows
tasks_more rows i tasks later task inside is before after =
    ap rows_of after ∙ map-append (λ (t : Task). t.row) tasks (task ∷ []) ∙ rw (before, is) (sym (take_more rows i no_row inside))

-- what an insertion of an offer is to a reader of the listing
insert_listed : (x : Offer) (xs : List Offer) → map listed (insert_by offer_cmp x xs) ≡ insert_by keeping (listed x) (map listed xs)
insert_listed x [] = refl
insert_listed x (y ∷ ys) = elim (cases_Bool (is_lt (keeping (listed x) (listed y)))) [
  | inl e ↦ rw e refl
  | inr e ↦ rw e (ap (λ zs. listed y ∷ zs) (insert_listed x ys))
]

pub offers_more : (row : ℕ → Row) (i : ℕ) (old once twice : List Offer) (fetch write : Offer)
    → listed fetch ≡ listing (row i) i A → listed write ≡ listing (row i) i R
    → map listed old ≡ kept row i → once ≡ insert_by offer_cmp fetch old → twice ≡ insert_by offer_cmp write once
    → map listed twice ≡ kept row (i + 1)
offers_more row i old once twice fetch write a r before first second =
    let one : map listed once ≡ insert_by keeping (listing (row i) i A) (kept row i) =
    ap (map listed) first ∙ insert_listed fetch old ∙ rw (a, before) refl in
    let two : map listed twice ≡ insert_by keeping (listing (row i) i R) (insert_by keeping (listing (row i) i A) (kept row i)) =
    ap (map listed) second ∙ insert_listed write once ∙ rw (r, one) refl in
    rw (add-one i) two

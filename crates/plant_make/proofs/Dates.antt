-- The document of a plant has no date but the start of its calendar, and that one can be printed.
use Rattle.std.proofs.Common.{◌≡◌, ℕ, ℤ, pos, Bool, true, false, cond, eqb, List, [], ◌∷◌, length, map, Option, Some, None, option_map, Ordering, Less, Equal, Greater, nat_cmp, refl}
use Rattle.std.specs.Prelude.{IfSome}
use Rattle.std.specs.Cmp.Lexicographic.{slice_cmp}
use Rattle.std.specs.List.{fold, AllByRecursion}
use Rattle.std.specs.Ordering.{match_ordering, int_eq}
use Rattle.std.proofs.lemmas.Bool.{and_parts}
use Rattle.toml.specs.Data.{Data, integer, Members, no_members, member, has_valid_dates, items_have_valid_dates, members_have_valid_dates}
use Rattle.toml.specs.View.{items_of}
use Rattle.stn_model.specs.declared.plant.Plant.{Plant}
use Rattle.stn_model.specs.declared.plant.Calendar.{Calendar}
use Rattle.stn_model.specs.declared.plant.State.{State}
use Rattle.stn_model.specs.declared.plant.Utility.{Utility}
use Rattle.stn_model.specs.declared.plant.StnUnit.{StnUnit}
use Rattle.stn_model.specs.declared.plant.Last.{Last}
use Rattle.stn_model.specs.declared.plant.Task.{Task}
use Rattle.stn_model.specs.declared.plant.Input.{Input}
use Rattle.stn_model.specs.declared.plant.Output.{Output}
use Rattle.stn_model.specs.declared.plant.Draw.{Draw}
use Rattle.stn_model.specs.declared.plant.Run.{Run}
use Rattle.stn_model.specs.declared.plant.Gap.{Gap}
use Rattle.stn_model.specs.declared.plant.Receipt.{Receipt}
use Rattle.stn_model.specs.declared.plant.Delivery.{Delivery}
use Rattle.stn_model.specs.declared.plant.Outage.{Outage}
use Rattle.stn_model.specs.Labels.{SoundCalendar}
use Rattle.plant_text.specs.Words.{key_word}
use Rattle.plant_make.specs.Entries.{Entry, with_member, with_entry, table_of, number, numbers, some_text, some_items}
use Rattle.plant_make.specs.Numbers.{lone, several}
use Rattle.plant_make.specs.Printed.{made_of, start_of, minutes_of, last_name, until_of, state_entries, utility_entries, unit_entries, input_entries, output_entries, draw_entries, task_entries, run_entries, gap_entries, receipt_entries, delivery_entries, outage_entries, plant_entries}
use Rattle.plant_make.proofs.Labels.{moment_valid}

-- what is held can be printed
abbrev Plain : Data → Type 0
Plain d = has_valid_dates d ≡ true

abbrev HeldPlain : Option Data → Type 0
HeldPlain None = Unit {0}
HeldPlain (Some d) = Plain d

abbrev ArePlain : List Entry → Type 0
ArePlain entries = AllByRecursion (λ (e : Entry). HeldPlain e.1) entries

-- ---- tables

plain_match : (o : Ordering) (a b c : Members) → members_have_valid_dates a ≡ true → members_have_valid_dates b ≡ true → members_have_valid_dates c ≡ true → members_have_valid_dates (match_ordering o a b c) ≡ true
plain_match Less a b c x y z = x
plain_match Equal a b c x y z = y
plain_match Greater a b c x y z = z

plain_with : (word : List ℕ) (d : Data) (ms : Members) → Plain d → members_have_valid_dates ms ≡ true → members_have_valid_dates (with_member word d ms) ≡ true
plain_with word d no_members plain rest = rw plain refl
plain_with word d (member l e more) plain rest =
    let parts = and_parts (has_valid_dates e) (members_have_valid_dates more) rest in
    plain_match (slice_cmp nat_cmp word l) _ _ _ (rw (plain, rest) refl) (rw (plain, parts.1) refl) (rw (parts.0, plain_with word d more plain parts.1) refl)

plain_fold : (entries : List Entry) (ms : Members) → ArePlain entries → members_have_valid_dates ms ≡ true → members_have_valid_dates (fold with_entry ms entries) ≡ true
plain_fold [] ms plain rest = rest
plain_fold ((which, None) ∷ es) ms plain rest = plain_fold es ms plain.1 rest
plain_fold ((which, Some d) ∷ es) ms plain rest = plain_fold es (with_member (key_word which) d ms) plain.1 (plain_with (key_word which) d ms plain.0 rest)

table_plain : (entries : List Entry) → ArePlain entries → members_have_valid_dates (table_of entries) ≡ true
unfolding table_of
table_plain entries plain = plain_fold entries no_members plain refl

made_plain : (entries : List Entry) → ArePlain entries → Plain (made_of entries)
made_plain entries plain = table_plain entries plain

-- ---- arrays

items_plain : (ds : List Data) → AllByRecursion Plain ds → items_have_valid_dates (items_of ds) ≡ true
items_plain [] plain = refl
items_plain (d ∷ ds) plain = rw (plain.0, items_plain ds plain.1) refl

rows_plain : {X : Type 0} (made : X → Data) → ((x : X) → Plain (made x)) → (xs : List X) → AllByRecursion Plain (map made xs)
rows_plain made plain [] = tt
rows_plain made plain (x ∷ xs) = (plain x, rows_plain made plain xs)

list_plain : (ns : List ℕ) → Plain (numbers ns)
list_plain ns = items_plain (map number ns) (rows_plain number (λ n. refl) ns)

some_plain : {X : Type 0} (made : X → Data) → ((x : X) → Plain (made x)) → (xs : List X) → HeldPlain (some_items (map made xs))
some_plain made plain [] = tt
some_plain made plain (x ∷ xs) = items_plain (map made (x ∷ xs)) (rows_plain made plain (x ∷ xs))

lone_plain : (o : Option ℕ) → HeldPlain (option_map number o)
lone_plain None = tt
lone_plain (Some n) = refl

text_plain : (text : List ℕ) → HeldPlain (some_text text)
text_plain [] = tt
text_plain (byte ∷ text) = refl

several_plain : (o : Option (List ℕ)) → HeldPlain (option_map numbers o)
several_plain None = tt
several_plain (Some ns) = list_plain ns

maybe_plain : (there : Bool) (x : ℤ) → HeldPlain (cond there (Some (integer x)) None)
maybe_plain true x = refl
maybe_plain false x = tt

-- ---- the records of a plant

state_plain : (state : State) → Plain (made_of (state_entries state))
unfolding state_entries
state_plain state = made_plain (state_entries state) (refl, (text_plain state.label, (refl, (lone_plain (lone state.limits), (several_plain (several state.limits), (refl, (refl, tt)))))))

utility_plain : (utility : Utility) → Plain (made_of (utility_entries utility))
unfolding utility_entries
utility_plain utility = made_plain (utility_entries utility) (refl, (text_plain utility.label, (lone_plain (lone utility.limits), (several_plain (several utility.limits), (maybe_plain (eqb (length utility.rates) 0) utility.rate, (some_plain integer (λ x. refl) utility.rates, tt))))))

last_plain : (plant : Plant) (last : Option Last) → HeldPlain (last_name plant last)
last_plain plant None = tt
last_plain plant (Some last) = refl

until_plain : (last : Option Last) → HeldPlain (until_of last)
until_plain None = tt
until_plain (Some last) = by_test (int_eq last.until (pos 0))
  where
    by_test : (zero : Bool) → HeldPlain (cond zero None (Some (integer last.until)))
    by_test true = tt
    by_test false = refl

unit_plain : (plant : Plant) (unit : StnUnit) → Plain (made_of (unit_entries plant unit))
unfolding unit_entries
unit_plain plant unit = made_plain (unit_entries plant unit) (refl, (text_plain unit.label, (last_plain plant unit.last, (until_plain unit.last, tt))))

input_plain : (plant : Plant) (quantum : ℕ) (input : Input) → Plain (made_of (input_entries plant quantum input))
unfolding input_entries
input_plain plant quantum input = made_plain (input_entries plant quantum input) (refl, (refl, tt))

output_plain : (plant : Plant) (quantum : ℕ) (output : Output) → Plain (made_of (output_entries plant quantum output))
unfolding output_entries
output_plain plant quantum output = made_plain (output_entries plant quantum output) (refl, (refl, (refl, tt)))

draw_plain : (plant : Plant) (draw : Draw) → Plain (made_of (draw_entries plant draw))
unfolding draw_entries
draw_plain plant draw = made_plain (draw_entries plant draw) (refl, (list_plain draw.fixed, (list_plain draw.each, tt)))

run_plain : (plant : Plant) (run : Run) → Plain (made_of (run_entries plant run))
unfolding run_entries
run_plain plant run = made_plain (run_entries plant run) (refl, (refl, (refl, (refl, (refl, tt)))))

gap_plain : (plant : Plant) (gap : Gap) → Plain (made_of (gap_entries plant gap))
unfolding gap_entries
gap_plain plant gap = made_plain (gap_entries plant gap) (refl, (refl, (refl, (refl, (refl, tt)))))

receipt_plain : (plant : Plant) (receipt : Receipt) → Plain (made_of (receipt_entries plant receipt))
unfolding receipt_entries
receipt_plain plant receipt = made_plain (receipt_entries plant receipt) (refl, (refl, (refl, tt)))

delivery_plain : (plant : Plant) (delivery : Delivery) → Plain (made_of (delivery_entries plant delivery))
unfolding delivery_entries
delivery_plain plant delivery = made_plain (delivery_entries plant delivery) (refl, (refl, (refl, (refl, tt))))

outage_plain : (plant : Plant) (outage : Outage) → Plain (made_of (outage_entries plant outage))
unfolding outage_entries
outage_plain plant outage = made_plain (outage_entries plant outage) (refl, (refl, (refl, tt)))

task_plain : (plant : Plant) (task : Task) → Plain (made_of (task_entries plant task))
unfolding task_entries
task_plain plant task =
    made_plain (task_entries plant task)
    (refl, (text_plain task.label, (text_plain task.colour, (refl, (some_plain _ (input_plain plant task.quantum) task.inputs, (some_plain _ (output_plain plant task.quantum) task.outputs, (some_plain _ (draw_plain plant) task.draws, tt)))))))

start_plain : (calendar : Option Calendar) → IfSome calendar SoundCalendar → HeldPlain (start_of calendar)
start_plain None sound = tt
start_plain (Some calendar) sound = moment_valid calendar.start sound.start

minutes_plain : (calendar : Option Calendar) → HeldPlain (minutes_of calendar)
minutes_plain None = tt
minutes_plain (Some calendar) = refl

-- each date in the document of a plant can be printed
pub document_plain : (plant : Plant) → IfSome plant.calendar SoundCalendar → members_have_valid_dates (table_of (plant_entries plant)) ≡ true
unfolding plant_entries
document_plain plant sound =
    table_plain (plant_entries plant) (
      refl,
      (
        refl,
        (
          start_plain plant.calendar sound,
          (
            minutes_plain plant.calendar,
            (
              some_plain _ state_plain plant.states,
              (
                some_plain _ utility_plain plant.utilities,
                (
                  some_plain _ (unit_plain plant) plant.units,
                  (
                    some_plain _ (task_plain plant) plant.tasks,
                    (
                      some_plain _ (run_plain plant) plant.runs,
                      (
                        some_plain _ (gap_plain plant) plant.gaps,
                        (some_plain _ (receipt_plain plant) plant.receipts, (some_plain _ (delivery_plain plant) plant.deliveries, (some_plain _ (outage_plain plant) plant.outages, tt))),
                      ),
                    ),
                  ),
                ),
              ),
            ),
          ),
        ),
      ),
    )

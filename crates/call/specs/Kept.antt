-- What our own functions answer and promise, which take what a check found: the call's promise, of every network of which this was found.
use Rattle.std.specs.Prelude.{◌≡◌, List, ℕ, ◌<◌, Result, Ok, Err, IfOk}
use Rattle.method.specs.Marks.{hop_of}
use Rattle.method.specs.Meant.{meant}
use Rattle.method.specs.declared.Entry.{Entry}
use Rattle.refusal.specs.Told.{number_of}
use Rattle.refusal.specs.declared.Reason.{Reason}
use Rattle.network.specs.Checked.{Checked}
use Rattle.network.specs.Found.{Finds}
use Rattle.network.specs.declared.Network.{Network}
use Rattle.call.specs.Answers.{values, entry_values}
use Rattle.call.specs.Calls.{entry_after}
use Rattle.call.specs.Promises.{WritePromise, RunPromise, MostPromise, EntryPromise, RoutePromise, PackPromise}
use Rattle.call.specs.declared.Way.{Way}

-- how many numbers were written, as an answer
abbrev pub written : Result ℕ Reason → ℕ
written (Ok k) = values k 0
written (Err reason) = number_of reason

-- an entry as an answer
abbrev pub entered : Result Entry Reason → ℕ
entered (Ok e) = entry_values (meant e)
entered (Err reason) = number_of reason

-- an entry of which the first hop is below 256
abbrev pub IsShort : Result Entry Reason → Type 0
IsShort found = IfOk found (λ e. hop_of (meant e) < 256)

-- a way as an answer
abbrev pub passed : Result Way Reason → ℕ
passed (Ok w) = values w.nodes w.distance.0
passed (Err reason) = number_of reason

abbrev pub Found : Type 0
Found = Result Network Reason

abbrev pub Writes : Found → List ℕ → ℕ → List ℕ → ℕ → List ℕ → Type 0
Writes found bs i room r room' = (net : Checked) → Finds net found → WritePromise net bs i room r room'

abbrev pub Runs : Found → List ℕ → List ℕ → List ℕ → ℕ → List ℕ → List ℕ → Type 0
Runs found bs counts entries r counts' entries' = (net : Checked) → Finds net found → RunPromise net bs counts entries r counts' entries'

abbrev pub Bounds : Found → ℕ → Type 0
Bounds found r = (net : Checked) → Finds net found → MostPromise net r

-- and the entry itself, which the two numbers of an answer do not tell from one that no run has
abbrev pub Enters : Found → List ℕ → ℕ → ℕ → Result Entry Reason → Type 0
Enters found bs i y r = (net : Checked) → Finds net found
    → EntryPromise net bs i y (entered r) × IfOk r (λ e. meant e ≡ entry_after net bs i y)

abbrev pub Routes : Found → List ℕ → ℕ → ℕ → List ℕ → ℕ → List ℕ → Type 0
Routes found bs i y room r room' = (net : Checked) → Finds net found → RoutePromise net bs i y room r room'

abbrev pub Packs : Found → List ℕ → ℕ → List ℕ → Type 0
Packs found room r room' = (net : Checked) → Finds net found → PackPromise net room r room'

-- The words after the program's name.
use Rattle.std.specs.Prelude.{ℕ, if◌then◌else◌, List, [], ◌∷◌, Option, Some, None, IfSome, String, codes, drop, map}
use Rattle.std.specs.String.{string_bytes}
use Rattle.std.specs.Option.{option_map}
use Rattle.std.specs.Str.{bytes_eq}
use Rattle.std.specs.Vec.Iter.{into_iter_items}
use Rattle.std.specs.declared.vec.IntoIter.{IntoIter}
use Rattle.std.specs.declared.io.ErrorKind.{ErrorKind}
use Rattle.std.specs.declared.io.ErrorKind.TheVariants.{OutOfMemory}
use Rattle.tipc_script.specs.Kinds.{is_number, number_of}
use Rattle.tipc_report.specs.Text.{seed_line}
use Rattle.tipc_load.specs.Load.{generated}
use Rattle.tipc_sim.specs.declared.words.Form.{Form}
use Rattle.tipc_sim.specs.declared.words.Form.TheVariants as form
use Rattle.tipc_sim.specs.declared.status.Status.{Status}
use Rattle.tipc_sim.specs.declared.status.Status.TheVariants.{NoMemory, Usage}

-- the form of one word: `run` or `dissect`
abbrev pub one_word : List ℕ → Option Form
one_word word = if bytes_eq word (codes "run") then Some form.Run else if bytes_eq word (codes "dissect") then Some form.Dissect else None

-- the number of a generated script that a word is: from 1 to 1,000, in decimal digits without sign or leading zero
abbrev pub seed_in : List ℕ → Option ℕ
seed_in word = if is_number 1 1000 word then Some (number_of word) else None

-- the form of two words: `gen` and such a number
abbrev pub generating : List ℕ → List ℕ → Option Form
generating word number = if bytes_eq word (codes "gen") then option_map form.Gen (seed_in number) else None

-- the form that some words are, if any: the word `run` or `dissect` alone, or `gen` and a number
abbrev pub form_of : List (List ℕ) → Option Form
form_of [] = None
form_of (word ∷ []) = one_word word
form_of (word ∷ number ∷ []) = generating word number
form_of (word ∷ number ∷ next ∷ words) = None

-- the script of a form, where it is known: what the source has left, or the one that the number stands for
abbrev pub script_of : Form → Option (List ℕ) → Option (List ℕ)
script_of form.Run left = left
script_of (form.Gen seed) left = Some (generated seed)
script_of form.Dissect left = None

-- the frames of a form, as lines, where they are known: what the source has left
abbrev pub frames_of : Form → Option (List ℕ) → Option (List ℕ)
frames_of form.Run left = None
frames_of (form.Gen seed) left = None
frames_of form.Dissect left = left

-- what stands before the report: nothing, or the line of the number
abbrev pub head_of : Form → List ℕ
head_of form.Run = []
head_of (form.Gen seed) = seed_line seed
head_of form.Dissect = []

-- the number of the first line whose answer is written. Of a generated script the last settling and what follows it are
-- written.
abbrev pub first_told : Form → ℕ
first_told form.Run = 1
first_told (form.Gen seed) = 1048
first_told form.Dissect = 1

-- where the words are a form and its script is known, this is so of both
abbrev pub OnScript : List (List ℕ) → Option (List ℕ) → (Form → List ℕ → Type 0) → Type 0
OnScript words left claim = IfSome (form_of words) (λ form. IfSome (script_of form left) (claim form))

-- where the words are a form and its frames are known, this is so of them
abbrev pub OnFrames : List (List ℕ) → Option (List ℕ) → (List ℕ → Type 0) → Type 0
OnFrames words left claim = IfSome (form_of words) (λ form. IfSome (frames_of form left) claim)

-- the words after the program's name, which is the first of its arguments
abbrev pub words_after_name : {A B : Type 0} → IntoIter (String A) B → List (List ℕ)
words_after_name args = map string_bytes (drop 1 (into_iter_items args))

-- how the program ends that got no arguments, by the kind of the error: memory ran out, or one is no text, so that the
-- words aren't a form
abbrev pub status_of : ErrorKind → Status
status_of OutOfMemory = NoMemory
status_of kind = Usage

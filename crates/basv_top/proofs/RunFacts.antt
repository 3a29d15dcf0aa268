-- An image runs on the board or is refused, and not both; so what `run` promises follows from why it ends.
use Rattle.std.proofs.Common.{◌≡◌, ◌⊎◌, inl, inr, ℕ, ◌<◌, ◌≤◌, List, length, refl, sym, ap, ◌∙◌, arith}
use Rattle.bv_base.specs.Limits.{image_bytes}
use Rattle.bv_base.specs.Words.{AreWords}
use Rattle.bv_base.proofs.Words.{length-flat_map-word_bytes}
use Rattle.arm2_machine.specs.Image as images
use Rattle.arm2_machine.specs.Image.{ImageOf, IsTooLong}
use Rattle.arm2_machine.specs.Step.{board_run}
use Rattle.arm2_machine.proofs.Images.{one_image, long≢no_image}
use Rattle.basv_words.specs.Command.{Options}
use Rattle.basv_top.specs.declared.status.Status.TheVariants as statuses
use Rattle.basv_top.specs.Ending as endings
use Rattle.basv_top.specs.Ending.{Ending, status_of, refusal_status, long_image}
use Rattle.basv_top.specs.Seen.{SeenShelf, SeenSink}
use Rattle.basv_top.specs.RunPromises.{IsRunStatus}
use Rattle.basv_top.specs.RunCommand.{Unrunnable, RunsOnBoard, EndsRun, Runs}
use Rattle.basv_top.proofs.Statuses.{refused≢, refused≢run}
use Rattle.basv_top.proofs.RunningFacts.{IsJudged, promises}

-- an image has at most this number of bytes
image_is_short : (bytes words : List ℕ) → ImageOf bytes words → length bytes ≤ image_bytes
image_is_short bytes words is = omega (arith, ap length is.spelled, length-flat_map-word_bytes words, is.short)

-- an image is refused for nothing
image≢unrunnable : (bytes words : List ℕ) (ending : Ending) → AreWords words → ImageOf bytes words → Unrunnable bytes ending → ⊥
image≢unrunnable bytes words endings.Done are is why = why
image≢unrunnable bytes words endings.Usage are is why = why
image≢unrunnable bytes words (endings.Refused reason) are is (inl long, _) = omega (arith, long, image_is_short bytes words is)
image≢unrunnable bytes words (endings.Refused reason) are is (inr long, _) = (one_image bytes words are is).fits long
image≢unrunnable bytes words (endings.ReadFault name) are is why = why
image≢unrunnable bytes words endings.WriteFault are is why = why
image≢unrunnable bytes words (endings.NotImage at) are is why = (one_image bytes words are is).is_image at why.1
image≢unrunnable bytes words (endings.BadText piece) are is why = why
image≢unrunnable bytes words (endings.Ran end bound) are is why = why

-- too many bytes or words, and no image
long≢unlike : (bytes : List ℕ) (at : ℕ) → (image_bytes < length bytes) ⊎ IsTooLong bytes → (length bytes ≤ image_bytes) × images.NotImage bytes at → ⊥
long≢unlike bytes at (inl long) why = omega (arith, long, why.0)
long≢unlike bytes at (inr long) why = long≢no_image bytes at long why.1

-- bytes that are too long are refused with one status
long_once : (bytes : List ℕ) (ending : Ending) → (image_bytes < length bytes) ⊎ IsTooLong bytes → Unrunnable bytes ending → status_of ending ≡ statuses.Limit
long_once bytes endings.Done long why = absurd why
long_once bytes endings.Usage long why = absurd why
long_once bytes (endings.Refused reason) long why = ap refusal_status why.1
long_once bytes (endings.ReadFault name) long why = absurd why
long_once bytes endings.WriteFault long why = absurd why
long_once bytes (endings.NotImage at) long why = absurd (long≢unlike bytes at long why)
long_once bytes (endings.BadText piece) long why = absurd why
long_once bytes (endings.Ran end bound) long why = absurd why

-- and those that are no image with another
unlike_once : (bytes : List ℕ) (at : ℕ) (ending : Ending) → (length bytes ≤ image_bytes) × images.NotImage bytes at → Unrunnable bytes ending → status_of ending ≡ statuses.NotImage
unlike_once bytes at endings.Done unlike why = absurd why
unlike_once bytes at endings.Usage unlike why = absurd why
unlike_once bytes at (endings.Refused reason) unlike why = absurd (long≢unlike bytes at why.0 unlike)
unlike_once bytes at (endings.ReadFault name) unlike why = absurd why
unlike_once bytes at endings.WriteFault unlike why = absurd why
unlike_once bytes at (endings.NotImage place) unlike why = refl
unlike_once bytes at (endings.BadText piece) unlike why = absurd why
unlike_once bytes at (endings.Ran end bound) unlike why = absurd why

unrunnable_once : (bytes : List ℕ) (a b : Ending) → Unrunnable bytes a → Unrunnable bytes b → status_of a ≡ status_of b
unrunnable_once bytes endings.Done b why other = absurd why
unrunnable_once bytes endings.Usage b why other = absurd why
unrunnable_once bytes (endings.Refused reason) b why other = ap refusal_status why.1 ∙ sym (long_once bytes b why.0 other)
unrunnable_once bytes (endings.ReadFault name) b why other = absurd why
unrunnable_once bytes endings.WriteFault b why other = absurd why
unrunnable_once bytes (endings.NotImage at) b why other = sym (unlike_once bytes at b why other)
unrunnable_once bytes (endings.BadText piece) b why other = absurd why
unrunnable_once bytes (endings.Ran end bound) b why other = absurd why

-- what is unrunnable has no status of a run, and is no fault
unrunnable≢run : (bytes : List ℕ) (ending : Ending) → Unrunnable bytes ending → IsRunStatus (status_of ending) → ⊥
unrunnable≢run bytes endings.Done why ends = why
unrunnable≢run bytes endings.Usage why ends = why
unrunnable≢run bytes (endings.Refused reason) why ends = refused≢run reason ends
unrunnable≢run bytes (endings.ReadFault name) why ends = why
unrunnable≢run bytes endings.WriteFault why ends = why
unrunnable≢run bytes (endings.NotImage at) why ends = ends
unrunnable≢run bytes (endings.BadText piece) why ends = why
unrunnable≢run bytes (endings.Ran end bound) why ends = why

unrunnable_unread : (bytes : List ℕ) (ending : Ending) → Unrunnable bytes ending → status_of ending ≡ statuses.ReadFault → ⊥
unrunnable_unread bytes endings.Done why is = why
unrunnable_unread bytes endings.Usage why is = why
unrunnable_unread bytes (endings.Refused reason) why is = refused≢ reason statuses.ReadFault is (λ none. none)
unrunnable_unread bytes (endings.ReadFault name) why is = why
unrunnable_unread bytes endings.WriteFault why is = why
unrunnable_unread bytes (endings.NotImage at) why is = cc
unrunnable_unread bytes (endings.BadText piece) why is = why
unrunnable_unread bytes (endings.Ran end bound) why is = why

unrunnable_unwritten : (bytes : List ℕ) (ending : Ending) → Unrunnable bytes ending → status_of ending ≡ statuses.WriteFault → ⊥
unrunnable_unwritten bytes endings.Done why is = why
unrunnable_unwritten bytes endings.Usage why is = why
unrunnable_unwritten bytes (endings.Refused reason) why is = refused≢ reason statuses.WriteFault is (λ none. none)
unrunnable_unwritten bytes (endings.ReadFault name) why is = why
unrunnable_unwritten bytes endings.WriteFault why is = why
unrunnable_unwritten bytes (endings.NotImage at) why is = cc
unrunnable_unwritten bytes (endings.BadText piece) why is = why
unrunnable_unwritten bytes (endings.Ran end bound) why is = why

pub image_judged : IsJudged RunsOnBoard Unrunnable image_bytes long_image
image_judged = record {
  one = λ bytes a b x y. x.3 ∙ ap board_run ((one_image bytes y.0 y.1 y.2).only x.0 x.1 x.2) ∙ sym y.3;
  short = λ bytes a x. image_is_short bytes x.0 x.2;
  good = λ bytes a ending x why. image≢unrunnable bytes x.0 ending x.1 x.2 why;
  once = unrunnable_once;
  long = λ bytes ending long why. long_once bytes ending (inl long) why;
  no_run = unrunnable≢run;
  no_read = unrunnable_unread;
  no_write = unrunnable_unwritten;
}

pub runs : (before after : SeenShelf) (out_before out_after : SeenSink) (image : List ℕ) (options : Options) (ending : Ending) → EndsRun before after out_before out_after image options ending → Runs before after out_before out_after image options (status_of ending)
runs before after out_before out_after image options = promises RunsOnBoard Unrunnable image_bytes long_image image_judged before after out_before out_after image options

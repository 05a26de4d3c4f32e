-- What a shelf's failure is to the reader of a frame.
use Rattle.mt_shelf.specs.declared.causes.CallError.{CallError}
use Rattle.mt_shelf.specs.declared.causes.CallError.TheVariants as call
use Rattle.mt_shelf_frame.specs.declared.error.ReadFrameError.{ReadFrameError}
use Rattle.mt_shelf_frame.specs.declared.error.ReadFrameError.TheVariants as error

-- the reader's error for an error of the shelf
abbrev pub of_call : CallError → ReadFrameError
of_call call.Failed = error.Shelf
of_call call.NoMemory = error.NoMemory

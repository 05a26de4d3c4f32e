-- What the error of a frame's reader is to the reader of a stream.
use Rattle.mt_shelf_frame.specs.declared.error.ReadFrameError.{ReadFrameError}
use Rattle.mt_shelf_frame.specs.declared.error.ReadFrameError.TheVariants as frame
use Rattle.mt_stream.specs.declared.error.StreamError.{StreamError}
use Rattle.mt_stream.specs.declared.error.StreamError.TheVariants as stream

-- the same cause, in the stream's words
abbrev pub of_frame_error : ReadFrameError → StreamError
of_frame_error (frame.At offset why) = stream.At offset why
of_frame_error frame.Shelf = stream.Shelf
of_frame_error frame.NoMemory = stream.NoMemory

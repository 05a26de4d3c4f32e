-- The folder that an index of files stands for.
use Rattle.mt_defs.specs.Folder.{Folder, folder_of}
use Rattle.mt_granules.specs.declared.file_index.FileIndex.{FileIndex}
use Rattle.mt_granules.specs.FileOrder.{referenced_files}

-- what each name holds in an index
abbrev pub indexed_folder : FileIndex → Folder
indexed_folder index = folder_of (referenced_files index.sorted.items)

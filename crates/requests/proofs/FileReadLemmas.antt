-- What the code reads of the files of a set: the set where there is no fault, and else the lowest fault.
use Rattle.requests.proofs.Vocabulary.{◌≡◌, ◌⊎◌, true, [], ◌∷◌, map, codes, Option, Some, None, refl, option_to_list, bytes_eq, Data, get, Pass, pass-append, pass-required, pass-unless, reads-both, reads-last, reads-mapped, reads-says, reading_faults, required_faults, as_name, slurm_fault, SlurmFault, MOST_FILES, choice_faults, file, file_choice, file_list, file_members, has_some, member_faults, names_of, object_faults, HasFile, HasFileList, HasMainFile, File, FileName, Members, file_list_in, file_members_in, files_in, named_file_in, name_cmp}
use Rattle.slurm.specs.declared.fault.SlurmFault.TheVariants.{NotJson, NotObject, Members as FileMembers, Version, Bgpsec, Prefix, Asn, MaxPrefixLength, EmptyFilter, Comment, TooMany, Memory}
use Rattle.requests.proofs.ArrangedReadLemmas.{is_up_to, reads-arranged_list}
use Rattle.requests.proofs.EntryReadLemmas.{reads-chosen}
use Rattle.requests.proofs.FileOrder.{name_total, tied-named}
use Rattle.requests.proofs.RequestFaultLemmas.{ReadsUnlessFaulty, reads-member, reads-with_only}
use Rattle.requests.proofs.SlurmReadLemmas.{reads-file, reads-main_file}

-- ---- one file and its name

reads-file_members : (d : Data) → ReadsUnlessFaulty (file_members_in d) (member_faults file_members d) (HasFile d)
reads-file_members d =
    reads-mapped _ (λ p says. says)
    (reads-both (reads-member as_name FileName (codes "name") d) (reads-last (reads-file d)))

reads-named_file : (d : Data) → ReadsUnlessFaulty (named_file_in d) (object_faults file_members d) (HasFile d)
reads-named_file d = reads-with_only (names_of file_members) d (reads-file_members d)

-- ---- a list of files

file-up_to : (fault : SlurmFault) → is_up_to FileName (File fault) ≡ true
file-up_to NotJson = refl
file-up_to NotObject = refl
file-up_to FileMembers = refl
file-up_to Version = refl
file-up_to Bgpsec = refl
file-up_to Prefix = refl
file-up_to Asn = refl
file-up_to MaxPrefixLength = refl
file-up_to EmptyFilter = refl
file-up_to Comment = refl
file-up_to TooMany = refl
file-up_to Memory = refl

file_faults-up_to : (found : Option SlurmFault) → Pass (is_up_to FileName) (map File (option_to_list found))
file_faults-up_to None = record { each = refl }
file_faults-up_to (Some fault) = record { each = rw (file-up_to fault) refl }

-- a name that is none or is there twice has the highest number
named-up_to : (d : Data) → Pass (is_up_to FileName) (object_faults file_members d)
named-up_to d =
    pass-append
    (pass-append (pass-required Members (reading_faults as_name FileName) (get (codes "name") d) refl (λ value. pass-unless _ FileName refl))
    (pass-append (pass-required Members (file d) (get (codes "file") d) refl (λ value. file_faults-up_to (slurm_fault (Some value)))) (record { each = refl })))
    (pass-unless _ Members refl)

pub reads-file_list : (d : Data) → ReadsUnlessFaulty (file_list_in d) (required_faults Members (file_list d) (get (codes "files") d)) (HasFileList (get (codes "files") d))
reads-file_list d =
    reads-says (λ files says. (says.0, says.1, says.2, says.3))
    (reads-arranged_list named_file_in (object_faults file_members) HasFile reads-named_file name_cmp name_total
    (λ f. f.name) bytes_eq tied-named as_name (codes "name") (λ d f says. says.0)
    0 MOST_FILES FileName named-up_to refl (get (codes "files") d))

-- ---- a set

pub reads-files : (d : Data) → ReadsUnlessFaulty (files_in d) (choice_faults file_choice d)
    (λ files. HasMainFile (get (codes "file") d) files ⊎ HasFileList (get (codes "files") d) files)
reads-files d =
    reads-chosen (has_some (codes "file" ∷ []) d) (has_some (codes "files" ∷ []) d) (reads-last (reads-main_file d)) (reads-last (reads-file_list d))
